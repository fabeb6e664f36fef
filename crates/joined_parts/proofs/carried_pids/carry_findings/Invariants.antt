use Rattle.std.proofs.Common.{◌≡◌, ◌++◌, map, take, drop}
use Rattle.pid_findings.specs.Shown.{finding_view}
use Rattle.joined_parts.specs.Recodings.{carried}
use Rattle.joined_parts.proofs.carried_pids.carry_findings.Given as goal

abbrev pub invariant-loop-finding : goal.invariant-loop-finding
invariant-loop-finding l =
    map finding_view (take l.finding-index l.findings) ++ map (carried l.recodings) (map finding_view (drop l.finding-index l.findings))
    ≡ map (carried l.recodings) (map finding_view l.fn.findings)
