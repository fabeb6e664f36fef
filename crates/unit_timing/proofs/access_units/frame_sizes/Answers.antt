use Rattle.unit_timing.proofs.AccessUnitLemmas.{frame_size_law}
use Rattle.unit_timing.proofs.access_units.frame_sizes.Goals as goal

pub returns : goal.returns
returns c = frame_size_law
