use Rattle.std.proofs.Common.{◌≡◌, drop, map}
use Rattle.pid_findings.specs.Shown.{finding_view}
use Rattle.service_information.specs.EventSurplus.{is_surplus}
use Rattle.service_information.specs.FirstFindings.{first_packet}
use Rattle.service_information.proofs.event_surplus.event_surplus.Given as goal

abbrev pub invariant-loop-finding : goal.invariant-loop-finding
invariant-loop-finding l =
    first_packet (is_surplus l.numbers l.taken) (map finding_view l.findings) ≡ first_packet (is_surplus l.numbers l.taken)
    (map finding_view (drop l.finding-index l.findings))
