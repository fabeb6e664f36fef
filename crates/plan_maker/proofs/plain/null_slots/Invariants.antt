use Rattle.std.proofs.Common.{◌≡◌, replicate}
use Rattle.slot_plan.specs.declared.slot.Slot.TheVariants.{Null}
use Rattle.plan_maker.proofs.plain.null_slots.Given as goal

abbrev pub invariant-loop : goal.invariant-loop
invariant-loop g l = l.slots.items ≡ replicate l.counter Null
