use Rattle.std.proofs.Common.{◌≡◌, ℕ, Some, map, slice_get, subst, true, OnOk}
use Rattle.demux.specs.StreamBodies.{AddsHeaders}
use Rattle.pid_findings.specs.Findings.{ended}
use Rattle.pid_findings.specs.Machine.{PidState}
use Rattle.pid_findings.specs.Shown.{finding_view, with_pid}
use Rattle.demux.specs.Stream.{StreamState}
use Rattle.demux.proofs.HeaderSteps.{ends_besides}
use Rattle.demux.proofs.headers.HeaderDemux.end_of_pid.Goals as goal

pub returns : goal.returns
returns g c =
    let s = c.self.inside.demux in
    let old = map finding_view c.args.found.now.items in
    let new = map finding_view c.end_of_pid.new.found.items in
    subst (λ (t : StreamState). (entry : ℕ × PidState) → slice_get t.states c.args.index ≡ Some entry →
    OnOk c.end_of_pid.result (AddsHeaders old new (map (with_pid entry.0 t.packets) (ended true entry.1.open_unit)))) c.self.view_is
    (λ entry there. ends_besides c.end_of_pid.result s.packets c.args.index s.states entry old new c.end_of_pid.ensures there)
