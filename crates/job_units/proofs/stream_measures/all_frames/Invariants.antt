use Rattle.std.proofs.Common.{◌≡◌, length, map}
use Rattle.sound_frames.specs.Frames.{no_frames, all_frames}
use Rattle.job_units.proofs.stream_measures.all_frames.Given as goal

abbrev pub invariant-loop-unit : goal.invariant-loop-unit
invariant-loop-unit l =
    all_frames l.kind no_frames (map (λ u. u.bytes) l.units) ≡ all_frames l.kind l.frames (map (λ u. u.bytes) l.left)

abbrev pub decreases-loop-unit : goal.decreases-loop-unit
decreases-loop-unit l = length l.left
