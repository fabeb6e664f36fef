use Rattle.tstd_rows.proofs.VideoIfAny.{peak_in}
use Rattle.tstd_rows.proofs.video_buffers.VideoBuffers.elementary_most.Goals as goal

pub returns : goal.returns
returns c = λ sizes rate parts k. peak_in c.args.self.now sizes rate parts k
