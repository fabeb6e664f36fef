use Rattle.unit_timing.proofs.ScheduleLemmas.{slotwise_law}
use Rattle.unit_timing.proofs.schedule.slotwise.Goals as goal

pub returns : goal.returns
returns c = slotwise_law
