use Rattle.unit_timing.proofs.AccessUnitLemmas.{framed_law}
use Rattle.unit_timing.proofs.access_units.main_buffer.Goals as goal

pub returns : goal.returns
returns c = framed_law
