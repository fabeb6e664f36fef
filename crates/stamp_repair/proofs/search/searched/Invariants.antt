use Rattle.std.proofs.Common.{◌≡◌, drop, map}
use Rattle.pid_findings.specs.Shown.{finding_view}
use Rattle.stamp_repair.specs.LoneStamps.{no_stamps, search_after}
use Rattle.stamp_repair.proofs.search.searched.Given as goal

abbrev pub invariant-loop-finding : goal.invariant-loop-finding
invariant-loop-finding l =
    search_after no_stamps (map finding_view l.findings) ≡ search_after l.search (map finding_view (drop l.finding-index l.findings))
