use Rattle.std.proofs.Common.{◌∙◌, ℕ, ◌*◌, ◌/◌, ap₂}
use Rattle.tstd_rows.specs.Busy.{never_busy}
use Rattle.tstd_rows.proofs.VideoRows.{no_bytes, video_empty}
use Rattle.tstd_rows.proofs.Rooms.{rooms_empty}
use Rattle.tstd_rows.specs.HeldVideo.{sizes_of}
use Rattle.tstd_rows.proofs.video_buffers.VideoBuffers.new.Goals as goal

pub returns-clause-held : goal.returns-clause-held
returns-clause-held c = λ rate.
    video_empty _ (sizes_of c.args.step c.args.rx c.args.rates.now) rate (c.new.ensures.step ∙ c.leak_step-leak.ensures.value) c.new.ensures.size
    c.new.ensures.view c.new-2.ensures
    (c.new-3.ensures ∙ ap₂ (λ (s r : ℕ). never_busy (s * r / 8)) c.from.ensures c.from-2.ensures)
    (rooms_empty c.new-4.result rate (sizes_of c.args.step c.args.rx c.args.rates.now).leak c.args.rates.now.elementary c.new-4.ensures.rooms
    c.new-4.ensures.last c.new-4.ensures.until)

pub returns-clause-bytes : goal.returns-clause-bytes
returns-clause-bytes c = no_bytes c.new.result c.new.ensures.view
