use Rattle.unit_timing.proofs.MainBufferPeak.{main_peak_law}
use Rattle.unit_timing.proofs.main_buffer.peak.Goals as goal

pub returns : goal.returns
returns c = main_peak_law
