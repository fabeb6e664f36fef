use Rattle.tstd_rows.proofs.VideoIfAny.{most_in}
use Rattle.tstd_rows.proofs.video_buffers.VideoBuffers.multiplexing_most.Goals as goal

pub returns : goal.returns
returns c = λ sizes rate parts k. most_in c.args.self.now sizes rate parts k
