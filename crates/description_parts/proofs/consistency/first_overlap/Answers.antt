use Rattle.std.proofs.Common.{sym, ◌∙◌}
use Rattle.description_parts.proofs.Places.{first_overlap-found, first_overlap-next}
use Rattle.description_parts.proofs.consistency.first_overlap.Goals as goal

pub returns-then-overlaps_one : goal.returns-then-overlaps_one
returns-then-overlaps_one c =
    sym (c.loop-item.invariant
    ∙ first_overlap-found c.args.events.now c.loop-item.item c.index-events-item.result c.loop-item-test.true c.index-events-item.is
    (sym c.if-overlaps_one.true ∙ c.overlaps_one.ensures))

pub loop-item-preserved : goal.loop-item-preserved
loop-item-preserved c =
    c.loop-item.invariant
    ∙ first_overlap-next c.args.events.now c.loop-item.item c.index-events-item.result c.loop-item-test.true c.index-events-item.is
    (sym c.if-overlaps_one.false ∙ c.overlaps_one.ensures)
