use Rattle.unit_timing.proofs.LeakMethodLemmas.{transfers_law}
use Rattle.unit_timing.proofs.video_buffers.transfers.Goals as goal

pub returns : goal.returns
returns c = transfers_law
