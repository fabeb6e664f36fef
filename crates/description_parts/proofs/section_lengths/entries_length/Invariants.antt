use Rattle.std.proofs.Common.{◌≡◌, ◌≤◌, ◌*◌, sum_by, take}
use Rattle.description_parts.specs.Tables.{entry_length}
use Rattle.description_parts.proofs.section_lengths.entries_length.Given as goal

abbrev pub invariant-loop-stream : goal.invariant-loop-stream
invariant-loop-stream l = record {
  total : l.total ≡ sum_by (entry_length l.number) (take l.stream-index l.streams);
  bound : l.total ≤ 714 * l.stream-index;
}
