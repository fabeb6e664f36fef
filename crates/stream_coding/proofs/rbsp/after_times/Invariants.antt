use Rattle.std.proofs.Common.{◌≡◌, ◌≤◌}
use Rattle.stream_coding.specs.Rbsp.{after_times}
use Rattle.stream_coding.proofs.rbsp.after_times.Given as goal

abbrev pub invariant-loop-left : goal.invariant-loop-left
invariant-loop-left l = record {
  read : after_times l.times l.elements l.bytes l.at ≡ after_times l.left l.elements l.bytes l.place;
  place : l.place ≤ 1048576;
}

abbrev pub decreases-loop-left : goal.decreases-loop-left
decreases-loop-left l = l.left
