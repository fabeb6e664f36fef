use Rattle.std.proofs.Common.{◌≡◌, ℕ, ◌<◌, max, length, get_or}
use Rattle.std.specs.Prelude.{slice_index}
use Rattle.sound_frames.proofs.frames.greater_left.Given as goal

abbrev pub invariant-loop-i : goal.invariant-loop-i
invariant-loop-i l = (length l.left ≡ 63) × ((k : ℕ) → k < l.i → get_or l.left k 0 ≡ max (slice_index l.one k) (slice_index l.other k))
