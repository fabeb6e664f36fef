use Rattle.std.proofs.Common.{ap, map, subst, sym, true}
use Rattle.demux.specs.StreamBodies.{AddsHeaders}
use Rattle.pid_findings.specs.Findings.{ended}
use Rattle.pid_findings.specs.Shown.{finding_view, with_pid}
use Rattle.tsmux_cli.proofs.HeaderLines.{faults_after, lines_after}
use Rattle.tsmux_cli.proofs.demultiplexing.list_end_of_pid.Goals as goal

pub returns-clause-lines : goal.returns-clause-lines
returns-clause-lines c = λ entry there.
    let none = map finding_view c.new-found.result.items in
    let ends = map (with_pid entry.0 c.args.demux.now.packets) (ended true entry.1.open_unit) in
    lines_after c.list.result c.args.text.now.items c.list.new.text.items none (map finding_view c.deref.result.now) ends
    (ap (λ xs. map finding_view xs) c.new-found.ensures.items)
    (subst (λ xs. AddsHeaders none (map finding_view xs) ends) (sym c.deref.ensures.value) (c.in-Ok.ensures entry there)) c.list.ensures.lines

pub returns-clause-fault : goal.returns-clause-fault
returns-clause-fault c = λ entry there.
    let none = map finding_view c.new-found.result.items in
    let ends = map (with_pid entry.0 c.args.demux.now.packets) (ended true entry.1.open_unit) in
    faults_after c.list.result none (map finding_view c.deref.result.now) ends (ap (λ xs. map finding_view xs) c.new-found.ensures.items)
    (subst (λ xs. AddsHeaders none (map finding_view xs) ends) (sym c.deref.ensures.value) (c.in-Ok.ensures entry there)) c.list.ensures.fault
