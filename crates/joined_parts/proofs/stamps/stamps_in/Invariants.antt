use Rattle.std.proofs.Common.{◌≡◌, [], drop, map}
use Rattle.pid_findings.specs.Shown.{finding_view}
use Rattle.joined_parts.specs.UnitStamps.{stamps_after}
use Rattle.joined_parts.proofs.stamps.stamps_in.Given as goal

abbrev pub invariant-loop-finding : goal.invariant-loop-finding
invariant-loop-finding l =
    stamps_after l.found [] (map finding_view l.findings) ≡ stamps_after l.found l.stamps.items (map finding_view (drop l.finding-index l.findings))
