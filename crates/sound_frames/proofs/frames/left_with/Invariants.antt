use Rattle.std.proofs.Common.{◌≡◌, ℕ, ◌<◌, length, get_or}
use Rattle.sound_frames.specs.Frames.{sum_with}
use Rattle.sound_frames.proofs.frames.left_with.Given as goal

abbrev pub invariant-loop-i : goal.invariant-loop-i
invariant-loop-i l = (length l.sums ≡ 63) × ((k : ℕ) → k < l.i → get_or l.sums k 0 ≡ sum_with l.left l.size k)
