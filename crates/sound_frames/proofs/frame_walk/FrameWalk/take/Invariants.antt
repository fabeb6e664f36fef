use Rattle.std.proofs.Common.{◌≡◌, ◌+◌, ◌++◌, length, drop}
use Rattle.sound_frames.specs.FrameWalks.{count_passed, frames_in, parts_from, walk_after, walked_from}
use Rattle.sound_frames.proofs.frame_walk.FrameWalk.take.Given as goal

abbrev pub invariant-frames : goal.invariant-frames
invariant-frames l = record {
  parts : l.parts.items ++ parts_from l.steps l.self l.place l.left ≡ frames_in l.fn.self l.bytes;
  walk : walked_from l.steps l.self l.left ≡ walk_after l.fn.self l.bytes;
  bound : l.place + length l.left ≡ length l.bytes;
}

abbrev pub decreases-frames : goal.decreases-frames
decreases-frames l = l.steps
