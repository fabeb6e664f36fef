use Rattle.std.proofs.Common.{◌≡◌, drop, map}
use Rattle.std.specs.Prelude.{option_map}
use Rattle.pid_findings.specs.Shown.{finding_view}
use Rattle.ts_services.specs.NetworkInformation.{found_network_view}
use Rattle.job_programs.specs.OtherStreams.{surplus_from}
use Rattle.job_programs.proofs.other_streams.surplus_from.Given as goal

abbrev pub invariant-loop-finding : goal.invariant-loop-finding
invariant-loop-finding l =
    surplus_from l.id (option_map found_network_view l.network) l.others (map finding_view l.findings)
    ≡ surplus_from l.id (option_map found_network_view l.network) l.others (map finding_view (drop l.finding-index l.findings))
