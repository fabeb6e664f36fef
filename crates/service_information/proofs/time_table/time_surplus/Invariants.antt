use Rattle.std.proofs.Common.{◌≡◌, drop, map}
use Rattle.pid_findings.specs.Shown.{finding_view}
use Rattle.service_information.specs.StreamTime.{is_surplus}
use Rattle.service_information.specs.FirstFindings.{first_packet}
use Rattle.service_information.proofs.time_table.time_surplus.Given as goal

abbrev pub invariant-loop-finding : goal.invariant-loop-finding
invariant-loop-finding l =
    first_packet is_surplus (map finding_view l.findings) ≡ first_packet is_surplus (map finding_view (drop l.finding-index l.findings))
