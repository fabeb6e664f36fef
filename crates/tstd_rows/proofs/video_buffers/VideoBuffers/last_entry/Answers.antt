use Rattle.std.proofs.Common.{◌∙◌, ℕ, ap}
use Rattle.tstd_rows.specs.RoomTimes.{capped}
use Rattle.tstd_rows.proofs.VideoRows.{entry_in}
use Rattle.tstd_rows.proofs.video_buffers.VideoBuffers.last_entry.Goals as goal

pub returns : goal.returns
returns c = λ sizes rate parts k. ap (λ (m : ℕ). capped m) c.max.ensures ∙ entry_in c.args.self.now sizes rate parts k
