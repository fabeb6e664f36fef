use Rattle.unit_timing.proofs.MomentLemmas.{multiplexing_moments}
use Rattle.unit_timing.proofs.moments.videos.Goals as goal

pub returns : goal.returns
returns c = multiplexing_moments
