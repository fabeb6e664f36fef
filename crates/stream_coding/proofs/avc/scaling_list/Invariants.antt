use Rattle.std.proofs.Common.{◌≡◌, ◌<◌, ◌≤◌}
use Rattle.stream_coding.specs.Avc.{scaling_list}
use Rattle.stream_coding.proofs.avc.scaling_list.Given as goal

abbrev pub invariant-loop-left : goal.invariant-loop-left
invariant-loop-left l = record {
  read : scaling_list l.count l.first l.bytes l.at ≡ scaling_list l.left l.last l.bytes l.place;
  last : l.last < 256;
  place : l.place ≤ 1048576;
}

abbrev pub decreases-loop-left : goal.decreases-loop-left
decreases-loop-left l = l.left
