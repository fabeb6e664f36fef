use Rattle.tstd_rows.proofs.VideoRows.{leaked_excess}
use Rattle.tstd_rows.proofs.video_buffers.VideoBuffers.multiplexing_excess.Goals as goal

pub returns : goal.returns
returns c = λ sizes rate parts k. leaked_excess c.args.self.now.view sizes.leak sizes.multiplexing rate parts k.leak k.size k.view
