use Rattle.tstd_rows.proofs.VideoBegins.{sized}
use Rattle.tstd_rows.proofs.stream_buffers.StreamBuffers.view_video.Goals as goal

pub returns-clause-video : goal.returns-clause-video
returns-clause-video c = λ h k none.
    let old = c.args.self.now in
    sized c.new.result old.view.transport.step old.rx h.rate h.rx c.args.rates.now h.parts k.step k.rx none (c.new.ensures.held h.rate)
