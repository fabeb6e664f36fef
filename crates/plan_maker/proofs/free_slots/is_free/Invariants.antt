use Rattle.std.proofs.Common.{◌≡◌, ◌+◌, ◌*◌, true, get_or}
use Rattle.slot_plan.specs.declared.slot.Slot.TheVariants.{Null}
use Rattle.plan_maker.specs.FirstNumbers.{every}
use Rattle.plan_maker.specs.PlainPlan.{is_null}
use Rattle.plan_maker.proofs.free_slots.is_free.Given as goal

abbrev pub invariant-loop-step : goal.invariant-loop-step
invariant-loop-step l = every l.step (λ j. is_null (get_or l.slots (l.first + j * l.spacing) Null)) ≡ true
