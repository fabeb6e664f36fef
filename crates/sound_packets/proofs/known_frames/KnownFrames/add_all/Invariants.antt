use Rattle.std.proofs.Common.{◌≡◌, length}
use Rattle.sound_packets.specs.KnownFrames.{with_streams}
use Rattle.sound_packets.proofs.known_frames.KnownFrames.add_all.Given as goal

abbrev pub invariant-sounds : goal.invariant-sounds
invariant-sounds l = with_streams l.fn.self l.sounds ≡ with_streams l.self l.left

abbrev pub decreases-sounds : goal.decreases-sounds
decreases-sounds l = length l.left
