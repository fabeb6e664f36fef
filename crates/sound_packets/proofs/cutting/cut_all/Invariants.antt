use Rattle.std.proofs.Common.{◌≡◌, ◌++◌, flat_map, length, map}
use Rattle.pid_findings.specs.Shown.{finding_view}
use Rattle.sound_packets.specs.CutPackets.{cut}
use Rattle.sound_packets.proofs.cutting.cut_all.Given as goal

abbrev pub invariant-loop-finding : goal.invariant-loop-finding
invariant-loop-finding l = flat_map (cut l.most l.known) (map finding_view l.initial.left.items)
    ≡ map finding_view l.cut.items ++ flat_map (cut l.most l.known) (map finding_view l.left.items)

abbrev pub decreases-loop-finding : goal.decreases-loop-finding
decreases-loop-finding l = length l.left.items
