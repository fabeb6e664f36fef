use Rattle.unit_timing.proofs.HeaderLemmas.{headers_law}
use Rattle.unit_timing.proofs.video_buffers.headers.Goals as goal

pub returns : goal.returns
returns c = headers_law
