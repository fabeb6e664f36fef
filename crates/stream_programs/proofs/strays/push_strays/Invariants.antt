use Rattle.std.proofs.Common.{◌≡◌, drop, map}
use Rattle.pid_findings.specs.Shown.{finding_view}
use Rattle.stream_programs.specs.StrayPids.{stray_pids}
use Rattle.stream_programs.proofs.strays.push_strays.Given as goal

abbrev pub invariant-loop-finding : goal.invariant-loop-finding
invariant-loop-finding g l =
    stray_pids l.known l.fn.found (map finding_view l.findings) ≡ stray_pids l.known l.found (map finding_view (drop l.finding-index l.findings))
