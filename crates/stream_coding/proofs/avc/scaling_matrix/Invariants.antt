use Rattle.std.proofs.Common.{◌≡◌, ◌-◌, ◌≤◌}
use Rattle.stream_coding.specs.Avc.{scaling_matrix}
use Rattle.stream_coding.proofs.avc.scaling_matrix.Given as goal

abbrev pub invariant-loop-i : goal.invariant-loop-i
invariant-loop-i l = record {
  read : scaling_matrix l.count 0 l.bytes l.at ≡ scaling_matrix (l.count - l.i) l.i l.bytes l.place;
  some : l.i ≤ l.count;
  place : l.place ≤ 1048576;
}

abbrev pub decreases-loop-i : goal.decreases-loop-i
decreases-loop-i l = l.count - l.i
