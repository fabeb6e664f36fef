use Rattle.std.proofs.Common.{◌≡◌, ◌≤◌, ◌^◌, drop}
use Rattle.fed_streams.specs.Feeding.{greatest_from}
use Rattle.fed_streams.proofs.fed_streams.greatest_of.Given as goal

abbrev pub invariant-loop-stream : goal.invariant-loop-stream
invariant-loop-stream l = record {
  value : greatest_from l.ticked l.streams ≡ greatest_from l.greatest (drop l.stream-index l.streams);
  bound : l.greatest ≤ 2 ^ 52;
}
