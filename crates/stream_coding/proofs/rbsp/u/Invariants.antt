use Rattle.std.proofs.Common.{◌≡◌, ◌≤◌}
use Rattle.stream_coding.specs.Rbsp.{number_from}
use Rattle.stream_coding.proofs.rbsp.u.Given as goal

abbrev pub invariant-loop-left : goal.invariant-loop-left
invariant-loop-left l = record {
  read : number_from l.bytes 0 l.at l.n ≡ number_from l.bytes l.number l.place l.left;
  place : l.place ≤ 1048576;
}

abbrev pub decreases-loop-left : goal.decreases-loop-left
decreases-loop-left l = l.left
