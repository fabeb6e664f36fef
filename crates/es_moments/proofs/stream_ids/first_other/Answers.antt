use Rattle.std.proofs.Common.{◌≡◌, ◌∙◌, ◌==◌, sym, true, false, rules}
use Rattle.es_moments.proofs.SameIds.{same_at, other_at, ids_end}
use Rattle.es_moments.proofs.stream_ids.first_other.Goals as goal

pub loop-at-preserved : goal.loop-at-preserved
loop-at-preserved g c =
    let same : (c.index-units-at.result.stream_id == c.args.id) ≡ true = search rules in
    c.loop-at.invariant ∙ same_at c.args.id c.loop-at.at c.args.units.now c.index-units-at.result c.loop-at-test.true c.index-units-at.is same

pub returns-then-unit-id : goal.returns-then-unit-id
returns-then-unit-id g c =
    let other : (c.index-units-at.result.stream_id == c.args.id) ≡ false = search rules in
    sym (c.loop-at.invariant ∙ other_at c.args.id c.loop-at.at c.args.units.now c.index-units-at.result c.loop-at-test.true c.index-units-at.is other)

pub returns : goal.returns
returns g c = sym (c.loop-at.invariant ∙ ids_end c.args.id c.loop-at.at c.args.units.now c.loop-at-test.false)
