use Rattle.std.proofs.Common.{◌≡◌, drop, map}
use Rattle.pid_findings.specs.Shown.{finding_view}
use Rattle.service_information.specs.Warnings.{is_bad_on}
use Rattle.service_information.specs.FirstFindings.{first_packet}
use Rattle.service_information.proofs.warning.first_bad.Given as goal

abbrev pub invariant-loop-finding : goal.invariant-loop-finding
invariant-loop-finding l =
    first_packet (is_bad_on l.pid) (map finding_view l.findings) ≡ first_packet (is_bad_on l.pid) (map finding_view (drop l.finding-index l.findings))
