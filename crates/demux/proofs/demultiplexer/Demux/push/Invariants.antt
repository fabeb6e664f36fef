use Rattle.std.proofs.Common.{length, ◌-◌, ◌≡◌, ◌≤◌, ◌<◌, take}
use Rattle.demux.specs.Stream as stream
use Rattle.demux.proofs.demultiplexer.Demux.push.Given as goal

abbrev pub invariant-loop-taken : goal.invariant-loop-taken
invariant-loop-taken g l = record {
  within : l.taken ≤ length l.piece;
  whole : 0 < l.taken → l.taken < length l.piece → length l.self.held ≡ 0;
  state : l.self ≡ stream.pushed l.fn.self (take l.taken l.piece);
}

abbrev pub decreases-loop-taken : goal.decreases-loop-taken
decreases-loop-taken g l = length l.piece - l.taken
