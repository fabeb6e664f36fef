use Rattle.std.proofs.Common.{◌≡◌, ◌++◌, map, take, drop}
use Rattle.pid_findings.specs.Shown.{finding_view}
use Rattle.joined_parts.specs.MapPids.{with_own_pid}
use Rattle.joined_parts.proofs.map_pids.put_all.Given as goal

abbrev pub invariant-loop-finding : goal.invariant-loop-finding
invariant-loop-finding l =
    map finding_view (take l.finding-index l.findings) ++ map (with_own_pid l.pids.entries) (map finding_view (drop l.finding-index l.findings))
    ≡ map (with_own_pid l.pids.entries) (map finding_view l.fn.findings)
