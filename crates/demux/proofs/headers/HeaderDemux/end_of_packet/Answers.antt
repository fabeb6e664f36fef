use Rattle.std.proofs.Common.{map, subst, OnOk}
use Rattle.demux.specs.StreamBodies.{AddsHeaders}
use Rattle.pid_findings.specs.Shown.{finding_view}
use Rattle.demux.specs.Stream.{StreamState, held_found}
use Rattle.demux.proofs.HeaderSteps.{ok_besides}
use Rattle.demux.proofs.headers.HeaderDemux.end_of_packet.Goals as goal

pub returns : goal.returns
returns g c =
    let s = c.self.inside.demux in
    let old = map finding_view c.args.found.now.items in
    let new = map finding_view c.end_of_packet.new.found.items in
    subst (λ (t : StreamState). OnOk c.end_of_packet.result (AddsHeaders old new (held_found t.packets t.held))) c.self.view_is
    (ok_besides c.end_of_packet.result old new (held_found s.packets s.held) c.end_of_packet.ensures)
