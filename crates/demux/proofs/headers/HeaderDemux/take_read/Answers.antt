use Rattle.std.proofs.Common.{◌∙◌, ap, map, subst}
use Rattle.pid_findings.specs.Shown.{finding_view}
use Rattle.demux.specs.Stream.{StreamState, found_in}
use Rattle.demux.specs.StreamBodies.{AddsHeaders, headers_taken}
use Rattle.demux.proofs.HeaderSteps.{found_besides, taken_besides}
use Rattle.demux.proofs.headers.HeaderDemux.take_read.Goals as goal

pub returns-clause-ok : goal.returns-clause-ok
returns-clause-ok g c =
    c.count.ensures ∙ taken_besides c.self.inside.demux c.take_read.new.self c.args.bytes.now c.in-Ok.ensures.ok
    ∙ ap (λ (s : StreamState). headers_taken s c.args.bytes.now) c.self.view_is

pub returns-clause-found : goal.returns-clause-found
returns-clause-found g c =
    subst (λ (s : StreamState). AddsHeaders (map finding_view c.args.found.now.items) (map finding_view c.take_read.new.found.items)
    (found_in s c.args.bytes.now)) c.self.view_is
    (found_besides c.self.inside.demux c.args.bytes.now _ _ c.in-Ok.ensures.found)
