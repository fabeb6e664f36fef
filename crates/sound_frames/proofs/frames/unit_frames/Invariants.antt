use Rattle.std.proofs.Common.{◌≡◌, ◌+◌, ◌≤◌, length}
use Rattle.sound_frames.specs.Frames.{no_frames, walked}
use Rattle.sound_frames.proofs.frames.unit_frames.Given as goal

abbrev pub invariant-frames : goal.invariant-frames
invariant-frames l = record {
  walk : walked l.kind (length l.unit) no_frames l.unit ≡ walked l.kind l.steps l.frames l.left;
  bound : l.frames.count + l.steps ≤ length l.unit;
}

abbrev pub decreases-frames : goal.decreases-frames
decreases-frames l = l.steps
