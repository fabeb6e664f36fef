use Rattle.std.proofs.Common.{◌≡◌, ◌++◌, map, take, drop}
use Rattle.pid_findings.specs.Shown.{finding_view}
use Rattle.joined_parts.specs.Joined.{all_moved}
use Rattle.joined_parts.proofs.joined.PartJoins.move_findings.Given as goal

abbrev pub invariant-loop-finding : goal.invariant-loop-finding
invariant-loop-finding l = map finding_view (take l.finding-index l.findings) ++ all_moved l.self (map finding_view (drop l.finding-index l.findings))
    ≡ all_moved l.self (map finding_view l.fn.findings)
