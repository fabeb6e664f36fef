use Rattle.std.proofs.Common.{◌∙◌}
use Rattle.tstd_rows.proofs.VideoRows.{busy_in}
use Rattle.tstd_rows.proofs.video_buffers.VideoBuffers.busy_under_way.Goals as goal

pub returns : goal.returns
returns c = λ sizes rate parts k. c.under_way.ensures ∙ busy_in c.args.self.now sizes rate parts k
