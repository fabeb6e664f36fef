use Rattle.std.proofs.Common.{◌≡◌, ◌++◌, drop, map, flat_map}
use Rattle.pid_findings.specs.Shown.{finding_view}
use Rattle.job_programs.specs.Warnings.{packet_warning}
use Rattle.job_programs.proofs.warnings.push_packet_warnings.Given as goal

abbrev pub invariant-loop-finding : goal.invariant-loop-finding
invariant-loop-finding l =
    l.fn.warnings.items ++ flat_map packet_warning (map finding_view l.findings)
    ≡ l.warnings.items ++ flat_map packet_warning (map finding_view (drop l.finding-index l.findings))
