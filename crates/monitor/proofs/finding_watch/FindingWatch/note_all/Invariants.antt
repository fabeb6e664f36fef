use Rattle.std.proofs.Common.{◌≡◌, drop, map}
use Rattle.pid_findings.specs.Shown.{finding_view}
use Rattle.monitor.specs.FindingStates.{all_noted}
use Rattle.monitor.proofs.finding_watch.FindingWatch.note_all.Given as goal

abbrev pub invariant-loop-finding : goal.invariant-loop-finding
invariant-loop-finding g l = all_noted l.self (map finding_view (drop l.finding-index l.found)) ≡ all_noted l.fn.self (map finding_view l.found)
