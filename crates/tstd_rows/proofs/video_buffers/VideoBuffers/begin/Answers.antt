use Rattle.std.proofs.Common.{◌∙◌, refl}
use Rattle.tstd_rows.specs.VideoViewed.{leaked}
use Rattle.tstd_rows.proofs.Rooms.{rooms_begun}
use Rattle.tstd_rows.proofs.VideoIfAny.{unit_entered}
use Rattle.tstd_rows.proofs.VideoRows.{begun_view, video_begun}
use Rattle.tstd_rows.proofs.video_buffers.VideoBuffers.begin.Goals as goal

pub returns-clause-held : goal.returns-clause-held
returns-clause-held c = λ sizes rate parts k.
    let rooms = c.in_ok-begin.ensures in
    let view = c.in_ok-before.ensures in
    video_begun c.args.self.now
    (record { view = c.begin-2.new.self; elementary = c.args.self.now.elementary; busy = c.args.self.now.busy; rooms = c.begin.new.self }) sizes rate parts
    c.args.due k
    (begun_view c.begin-2.new.self rate parts c.args.due (view.view (leaked rate parts) k.view)) view.transport view.watch refl refl
    (rooms_begun c.args.self.now.rooms c.begin.new.self rate sizes.leak sizes.elementary parts c.args.due k.rooms rooms.rooms rooms.many rooms.last rooms.until)

pub returns-clause-unit : goal.returns-clause-unit
returns-clause-unit c = λ sizes rate parts k.
    c.with_entry.ensures
    ∙ unit_entered c.args.self.now sizes rate parts c.in_ok-before.before c.last_entry-entered.result k c.in_ok-before.ensures.before
    (c.last_entry-entered.ensures sizes rate parts k)
