use Rattle.std.proofs.Common.{◌≡◌, ◌≤◌, ◌*◌, sum_by, take}
use Rattle.description_parts.specs.Tables.{listed_length}
use Rattle.description_parts.proofs.section_lengths.tables_length.Given as goal

abbrev pub invariant-loop-table : goal.invariant-loop-table
invariant-loop-table l = record {
  total : l.total ≡ sum_by (listed_length l.number) (take l.table-index l.tables);
  bound : l.total ≤ 705 * l.table-index;
}
