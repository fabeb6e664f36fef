use Rattle.std.proofs.Common.{◌≡◌, [], drop, map}
use Rattle.pid_findings.specs.Shown.{finding_view}
use Rattle.stamp_repair.specs.DataTimes.{seen_after}
use Rattle.stamp_repair.proofs.seen_stamps.seen_in.Given as goal

abbrev pub invariant-loop-finding : goal.invariant-loop-finding
invariant-loop-finding l = seen_after [] (map finding_view l.findings) ≡ seen_after l.seen (map finding_view (drop l.finding-index l.findings))
