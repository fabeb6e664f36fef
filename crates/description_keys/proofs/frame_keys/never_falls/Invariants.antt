use Rattle.std.proofs.Common.{◌≡◌, length}
use Rattle.description_keys.specs.StreamKeys.{never_falls}
use Rattle.description_keys.proofs.frame_keys.never_falls.Given as goal

abbrev pub invariant-loop-first : goal.invariant-loop-first
invariant-loop-first l = never_falls l.numbers ≡ never_falls l.rest

abbrev pub decreases-loop-first : goal.decreases-loop-first
decreases-loop-first l = length l.rest
