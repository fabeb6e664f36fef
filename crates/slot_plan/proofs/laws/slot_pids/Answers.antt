use Rattle.slot_plan.proofs.SlotPids.{slots_apart, slots_below}
use Rattle.slot_plan.proofs.laws.slot_pids.Goals as goal

pub returns-clause-apart : goal.returns-clause-apart
returns-clause-apart c = slots_apart

pub returns-clause-below : goal.returns-clause-below
returns-clause-below c = slots_below
