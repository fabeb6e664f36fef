use Rattle.std.proofs.Common.{◌≡◌, [], drop, map}
use Rattle.pid_findings.specs.Shown.{finding_view}
use Rattle.ts_services.specs.NetworkInformation.{found_network_view}
use Rattle.job_programs.specs.OtherStreams.{with_findings}
use Rattle.job_programs.proofs.other_streams.streams_beside.Given as goal

abbrev pub invariant-loop-finding : goal.invariant-loop-finding
invariant-loop-finding l =
    with_findings l.id (found_network_view l.network) [] (map finding_view l.findings)
    ≡ with_findings l.id (found_network_view l.network) l.taken.items (map finding_view (drop l.finding-index l.findings))
