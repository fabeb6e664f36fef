use Rattle.std.proofs.Common.{max, rules}
use Rattle.std.specs.Prelude.{slice_index}
use Rattle.std.proofs.lemmas.List.FromFn.{fill_by_all}
use Rattle.sound_frames.proofs.frames.greater_left.Goals as goal

pub returns : goal.returns
returns c =
    fill_by_all (λ i. max (slice_index c.args.one.now i) (slice_index c.args.other.now i)) c.loop-i.left 63 0 c.loop-i.invariant.0 (search rules)
