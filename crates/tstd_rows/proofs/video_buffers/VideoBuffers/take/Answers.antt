use Rattle.std.proofs.Common.{◌∙◌, refl}
use Rattle.tstd_rows.specs.Buffers.{times_left}
use Rattle.tstd_rows.specs.VideoViewed.{leaked}
use Rattle.tstd_rows.proofs.VideoRows.{many_left, rooms_taken, video_found, video_held}
use Rattle.tstd_rows.proofs.video_buffers.VideoBuffers.take.Goals as goal

pub returns-clause-held : goal.returns-clause-held
returns-clause-held c = λ sizes rate parts times k is.
    let seen = c.leak-found.ensures in
    video_held c.args.self.now _ sizes rate parts (times_left c.args.leaving.now) times c.leak-found.result.elementary c.leak-found.new.self.transport.last k is
    (seen.view (leaked rate parts) k.view) seen.step seen.size (seen.elementary (leaked rate parts) k.view) refl c.see.ensures.size c.see.ensures.under_way
    c.see_leaving.ensures
    (rooms_taken c.args.self.now c.settle.new.self c.take.new.self sizes rate c.leak-found.new.self.transport.step _ parts (times_left c.args.leaving.now) times
    k is
    (many_left c.args.leaving.now) (seen.step ∙ k.leak) c.settle.ensures.rooms c.settle.ensures.many c.settle.ensures.last c.settle.ensures.current
    c.take.ensures.rooms c.take.ensures.last c.take.ensures.until)

pub returns-clause-entered : goal.returns-clause-entered
returns-clause-entered c = λ sizes rate parts times k is.
    let seen = c.leak-found.ensures in
    video_found c.args.self.now c.leak-found.new.self sizes rate parts (times_left c.args.leaving.now) times c.leak-found.result.elementary
    c.leak-found.new.self.transport.last
    (record {
      waiting = c.leak-found.new.waiting;
      free = c.leak-found.new.free;
      elementary = c.see.new.ended;
      unit = c.args.into.now.unit;
      multiplexing_most = c.leak-found.result.multiplexing;
      elementary_most = c.leak-found.result.elementary;
    })
    k is (seen.view (leaked rate parts) k.view) seen.step (seen.elementary (leaked rate parts) k.view) refl c.see.ensures.ended seen.ended seen.multiplexing
    refl
