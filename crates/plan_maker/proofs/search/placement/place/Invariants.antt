use Rattle.std.proofs.Common.{◌≡◌, ◌+◌, length, None}
use Rattle.plan_maker.proofs.PlacedSlots.{IsPlaced}
use Rattle.plan_maker.proofs.search.placement.place.Given as goal

abbrev pub invariant-loop-at : goal.invariant-loop-at
invariant-loop-at g l = record {
  placed : IsPlaced l.period l.fn.tasks l.at l.initial.slots.items l.slots.items l.tasks None;
  length : length l.slots.items ≡ length l.initial.slots.items + l.at;
}
