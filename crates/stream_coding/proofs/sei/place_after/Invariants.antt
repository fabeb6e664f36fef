use Rattle.std.proofs.Common.{◌≡◌, length}
use Rattle.stream_coding.specs.Sei.{place_after}
use Rattle.stream_coding.proofs.sei.place_after.Given as goal

abbrev pub invariant-loop-first : goal.invariant-loop-first
invariant-loop-first l = place_after l.fn.start l.bytes ≡ place_after l.place l.left

abbrev pub decreases-loop-first : goal.decreases-loop-first
decreases-loop-first l = length l.left
