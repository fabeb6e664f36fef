use Rattle.std.proofs.Common.{◌∙◌}
use Rattle.tstd_rows.proofs.Rows.{busy_held}
use Rattle.tstd_rows.proofs.stream_buffers.StreamBuffers.busy_under_way.Goals as goal

pub returns : goal.returns
returns c = λ h k. c.under_way.ensures ∙ busy_held c.args.self.now h k
