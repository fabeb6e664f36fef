use Rattle.std.proofs.Common.{◌≡◌, drop, length}
use Rattle.plan_maker.specs.PlainPlan.{of_spacing, placed}
use Rattle.plan_maker.proofs.free_slots.place_spacing.Given as goal

abbrev pub invariant-loop-item : goal.invariant-loop-item
invariant-loop-item l = record {
  rest : placed (of_spacing l.spacing (drop l.item-index l.items)) l.slots ≡ placed (of_spacing l.spacing l.items) l.fn.slots;
  same : length l.slots ≡ length l.fn.slots;
}
