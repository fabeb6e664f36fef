use Rattle.std.proofs.Common.{◌≡◌, ◌<◌, ◌≤◌, length, arith, rules, ap, ◌∙◌}
use Rattle.description_parts.specs.Tables.{table_kinds}
use Rattle.plan_checker.proofs.Counts.{few_tables}
use Rattle.slot_plan.specs.declared.slot.Slot.TheVariants.{Table}
use Rattle.plan_maker.specs.Spacings.{spacing, table_room}
use Rattle.plan_maker.proofs.GrowingLists.{numbers_pushed, all_pushed}
use Rattle.plan_maker.proofs.spacing.push_tables.Goals as goal

pub overflow_cast-t : goal.overflow_cast-t
overflow_cast-t g c = record { fits = omega (arith, few_tables c.args.description.now c.keeps_ranges.ensures) }

pub loop-t-preserved : goal.loop-t-preserved
loop-t-preserved g c =
    let d = c.args.description.now in
    let t = c.loop-t.t in
    let below : t < length (table_kinds d) = search rules in
    let is : c.spacing_of-spacing.result ≡ spacing (table_room d t) = c.spacing_of-spacing.ensures.spacing ∙ ap spacing c.table_room.ensures in
    rw (c.in_ok-push.ensures.items, is)
    (numbers_pushed (λ t. record { slot = Table t; spacing = spacing (table_room d t) }) (table_kinds d) _ c.loop-t.items.items t below c.loop-t.invariant)

pub returns : goal.returns
returns g c =
    let d = c.args.description.now in
    let over : length (table_kinds d) ≤ c.loop-t.t = search rules in
    all_pushed (λ t _. record { slot = Table t; spacing = spacing (table_room d t) }) (table_kinds d) _ c.loop-t.items.items c.loop-t.t over c.loop-t.invariant
