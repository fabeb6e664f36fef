use Rattle.std.proofs.Common.{◌∙◌, refl}
use Rattle.tstd_rows.proofs.VideoIfAny.{unit_entered}
use Rattle.tstd_rows.proofs.video_buffers.VideoBuffers.unit.Goals as goal

pub returns : goal.returns
returns c = λ sizes rate parts k.
    c.with_entry.ensures ∙ unit_entered c.args.self.now sizes rate parts c.args.self.now.view.unit c.last_entry.result k refl
    (c.last_entry.ensures sizes rate parts k)
