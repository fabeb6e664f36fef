use Rattle.std.proofs.Common.{◌≡◌, drop, map}
use Rattle.pid_findings.specs.Shown.{finding_view}
use Rattle.joined_parts.specs.Recodings.{codings_after}
use Rattle.joined_parts.proofs.recodings.CodingChanges.take_all.Given as goal

abbrev pub invariant-loop-finding : goal.invariant-loop-finding
invariant-loop-finding l =
    codings_after l.fn.self (map finding_view l.findings) ≡ codings_after l.self (map finding_view (drop l.finding-index l.findings))
