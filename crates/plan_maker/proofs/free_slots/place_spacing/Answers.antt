use Rattle.std.proofs.Common.{◌∙◌}
use Rattle.plan_maker.proofs.SpacingOrder.{place_next, place_full, place_other, place_end, never, never_true}
use Rattle.plan_maker.proofs.free_slots.place_spacing.Goals as goal
use Rattle.plan_maker.proofs.free_slots.place_spacing.Goals.{else-item-spacing-via-then-item-spacing+else-not-place, else-item-spacing-via-else-item-spacing}

pub loop-item-preserved : goal.loop-item-preserved
loop-item-preserved c =
    let inv = c.loop-item.invariant in
    elim c.else-item-spacing.branch [
      | else-item-spacing-via-then-item-spacing+else-not-place w ↦ record {
        rest = rw w.slots-is
            (place_next c.args.spacing c.args.items.now c.loop-item.item-index _ c.loop-item.slots _ c.loop-item-test.true inv.rest _ w.if-item-spacing.true
            (w.place.ensures.given w.if-not-place.false));
        same = rw w.slots-is (w.place.ensures.same_length ∙ inv.same);
      }
      | else-item-spacing-via-else-item-spacing w ↦ record {
        rest = rw w.slots-is
            (place_other c.args.spacing c.args.items.now c.loop-item.item-index _ c.loop-item.slots _ c.loop-item-test.true inv.rest w.if-item-spacing.false);
        same = rw w.slots-is inv.same;
      }
    ]

pub returns-then-not-place : goal.returns-then-not-place
returns-then-not-place c = record {
  given = λ e. never_true e;
  full = λ _. place_full c.args.spacing c.args.items.now c.loop-item.item-index _ c.loop-item.slots _ c.loop-item-test.true c.loop-item.invariant.rest
      c.if-item-spacing.true (c.place.ensures.full c.if-not-place.true);
  same_length = c.place.ensures.same_length ∙ c.loop-item.invariant.same;
}

pub returns : goal.returns
returns c = record {
  given = λ _. place_end c.args.spacing c.args.items.now c.loop-item.item-index c.loop-item.slots _ c.loop-item-test.false c.loop-item.invariant.rest;
  full = λ e. never e;
  same_length = c.loop-item.invariant.same;
}
