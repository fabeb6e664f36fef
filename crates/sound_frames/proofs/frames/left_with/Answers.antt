use Rattle.std.proofs.Common.{rules}
use Rattle.std.proofs.lemmas.List.FromFn.{fill_by_all}
use Rattle.sound_frames.specs.Frames.{sum_with}
use Rattle.sound_frames.proofs.frames.left_with.Goals as goal

pub returns : goal.returns
returns c = fill_by_all (sum_with c.args.left.now c.args.size) c.loop-i.sums 63 0 c.loop-i.invariant.0 (search rules)
