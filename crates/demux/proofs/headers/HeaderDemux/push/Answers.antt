use Rattle.std.proofs.Common.{◌∙◌, ap}
use Rattle.demux.specs.Stream.{StreamState}
use Rattle.demux.specs.StreamBodies.{headers_pushed}
use Rattle.demux.proofs.HeaderSteps.{pushed_besides}
use Rattle.demux.proofs.headers.HeaderDemux.push.Goals as goal

pub returns : goal.returns
returns g c =
    c.count.ensures ∙ pushed_besides c.self.inside.demux c.push.new.self c.args.piece.now c.in-Ok.ensures.ok
    ∙ ap (λ (s : StreamState). headers_pushed s c.args.piece.now) c.self.view_is
