use Rattle.std.proofs.Common.{◌≡◌, [], drop, map}
use Rattle.pid_findings.specs.Shown.{finding_view}
use Rattle.joined_parts.specs.Recodings.{pids_after}
use Rattle.joined_parts.proofs.recodings.pids_in.Given as goal

abbrev pub invariant-loop-finding : goal.invariant-loop-finding
invariant-loop-finding l = pids_after [] (map finding_view l.findings) ≡ pids_after l.pids (map finding_view (drop l.finding-index l.findings))
