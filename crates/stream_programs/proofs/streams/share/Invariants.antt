use Rattle.std.proofs.Common.{◌≡◌, ◌++◌, take, drop}
use Rattle.stream_programs.specs.Streams.{shared_by}
use Rattle.stream_programs.proofs.streams.share.Given as goal

abbrev pub invariant-loop-k : goal.invariant-loop-k
invariant-loop-k g l = record {
  same : l.streams.items ≡ l.fn.streams.items;
  shared : shared_by l.number l.pid l.streams.items ≡ take l.k l.streams.items ++ shared_by l.number l.pid (drop l.k l.streams.items);
}
