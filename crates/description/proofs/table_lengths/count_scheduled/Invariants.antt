use Rattle.std.proofs.Common.{◌≡◌, ◌≤◌, filter, take, length}
use Rattle.description_parts.specs.Tables.{is_scheduled}
use Rattle.description.proofs.table_lengths.count_scheduled.Given as goal

abbrev pub invariant-loop-program : goal.invariant-loop-program
invariant-loop-program l = record {
  count : l.count ≡ length (filter (is_scheduled l.all) (take l.program-index l.programs));
  most : l.count ≤ l.program-index;
}
