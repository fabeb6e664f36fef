use Rattle.std.proofs.Common.{◌≡◌, ◌≤◌, length}
use Rattle.stream_coding.specs.Rbsp.{after}
use Rattle.stream_coding.proofs.rbsp.after.Given as goal

abbrev pub invariant-loop-element : goal.invariant-loop-element
invariant-loop-element l = record {
  read : after l.elements l.bytes l.at ≡ after l.left l.bytes l.place;
  place : l.place ≤ 1048576;
}

abbrev pub decreases-loop-element : goal.decreases-loop-element
decreases-loop-element l = length l.left
