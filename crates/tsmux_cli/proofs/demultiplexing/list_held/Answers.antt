use Rattle.std.proofs.Common.{ap, map, subst, sym}
use Rattle.demux.specs.StreamBodies.{AddsHeaders}
use Rattle.pid_findings.specs.Shown.{finding_view}
use Rattle.demux.specs.Stream.{held_found}
use Rattle.tsmux_cli.proofs.HeaderLines.{faults_after}
use Rattle.tsmux_cli.proofs.demultiplexing.list_held.Goals as goal

pub returns-clause-fault : goal.returns-clause-fault
returns-clause-fault c =
    let demux = c.args.demux.now in
    let none = map finding_view c.new-found.result.items in
    let held = held_found demux.packets demux.held in
    faults_after c.list.result none (map finding_view c.deref.result.now) held (ap (λ xs. map finding_view xs) c.new-found.ensures.items)
    (subst (λ xs. AddsHeaders none (map finding_view xs) held) (sym c.deref.ensures.value) c.in-Ok.ensures) c.list.ensures.fault
