use Rattle.std.proofs.Common.{◌≡◌, drop, map}
use Rattle.pid_findings.specs.Shown.{finding_view}
use Rattle.ts_services.specs.NetworkInformation.{first_network}
use Rattle.ts_services.proofs.network_information.first_network.Given as goal

abbrev pub invariant-loop-finding : goal.invariant-loop-finding
invariant-loop-finding g l =
    first_network l.stream (map finding_view l.findings) ≡ first_network l.stream (map finding_view (drop l.finding-index l.findings))
