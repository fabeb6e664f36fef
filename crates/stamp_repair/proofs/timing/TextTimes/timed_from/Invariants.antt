use Rattle.std.proofs.Common.{◌≡◌, ◌++◌, length, map}
use Rattle.pid_findings.specs.Shown.{finding_view}
use Rattle.stamp_repair.specs.DataTimes.{timed_from}
use Rattle.stamp_repair.proofs.timing.TextTimes.timed_from.Given as goal

abbrev pub invariant-loop-finding : goal.invariant-loop-finding
invariant-loop-finding l = timed_from l.self l.initial.line (map finding_view l.initial.left.items)
    ≡ map finding_view l.timed.items ++ timed_from l.self l.line (map finding_view l.left.items)

abbrev pub decreases-loop-finding : goal.decreases-loop-finding
decreases-loop-finding l = length l.left.items
