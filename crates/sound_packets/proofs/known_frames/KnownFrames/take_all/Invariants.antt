use Rattle.std.proofs.Common.{◌≡◌, drop, map}
use Rattle.pid_findings.specs.Shown.{finding_view}
use Rattle.sound_packets.specs.KnownFrames.{with_findings}
use Rattle.sound_packets.proofs.known_frames.KnownFrames.take_all.Given as goal

abbrev pub invariant-loop-finding : goal.invariant-loop-finding
invariant-loop-finding l = with_findings l.fn.self (map finding_view l.findings) ≡ with_findings l.self (map finding_view (drop l.finding-index l.findings))
