use Rattle.std.proofs.Common.{◌≡◌, [], drop, map}
use Rattle.pid_findings.specs.Shown.{finding_view}
use Rattle.service_information.specs.Events.{with_findings}
use Rattle.service_information.proofs.events.stream_events.Given as goal

abbrev pub invariant-loop-finding : goal.invariant-loop-finding
invariant-loop-finding l =
    with_findings l.numbers [] (map finding_view l.findings) ≡ with_findings l.numbers l.taken.items (map finding_view (drop l.finding-index l.findings))
