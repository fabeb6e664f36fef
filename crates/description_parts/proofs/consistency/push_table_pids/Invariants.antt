use Rattle.std.proofs.Common.{◌≡◌, ◌++◌, map, take}
use Rattle.description_parts.proofs.consistency.push_table_pids.Given as goal

abbrev pub invariant-loop-table : goal.invariant-loop-table
invariant-loop-table l = l.pids.items ≡ l.initial.pids.items ++ map (λ part. part.pid) (take l.table-index l.tables)
