use Rattle.std.proofs.Common.{◌≡◌, ◌≤◌, ◌++◌, All, map, take}
use Rattle.description_parts.specs.Tables.{network_stream_length}
use Rattle.description_parts.proofs.nit_parts.push_lengths.Given as goal

abbrev pub invariant-loop-stream : goal.invariant-loop-stream
invariant-loop-stream l = record {
  value : l.lengths.items ≡ l.initial.lengths.items ++ map network_stream_length (take l.stream-index l.streams);
  bounded : All (λ n. n ≤ 972) l.lengths.items;
}
