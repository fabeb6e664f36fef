use Rattle.unit_timing.proofs.StayLemmas.{longest_stay_law}
use Rattle.unit_timing.proofs.main_buffer.longest_stay.Goals as goal

pub returns : goal.returns
returns c = longest_stay_law
