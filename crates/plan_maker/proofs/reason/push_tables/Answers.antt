use Rattle.std.proofs.Common.{◌<◌, ◌≤◌, length, rules}
use Rattle.description_parts.specs.Tables.{table_kinds}
use Rattle.plan_maker.specs.Reasons.{table_reason}
use Rattle.plan_maker.proofs.GrowingLists.{number_parts_pushed, all_parts_pushed}
use Rattle.plan_maker.proofs.reason.push_tables.Goals as goal

pub loop-t-preserved : goal.loop-t-preserved
loop-t-preserved g c =
    let d = c.args.description.now in
    let t = c.loop-t.t in
    let below : t < length (table_kinds d) = search rules in
    rw (c.in_ok-push.ensures, c.table_reason.ensures) (number_parts_pushed (table_reason d) (table_kinds d) _ c.loop-t.reasons.items t below c.loop-t.invariant)

pub returns : goal.returns
returns g c =
    let d = c.args.description.now in
    let over : length (table_kinds d) ≤ c.loop-t.t = search rules in
    all_parts_pushed (λ t _. table_reason d t) (table_kinds d) _ c.loop-t.reasons.items c.loop-t.t over c.loop-t.invariant
