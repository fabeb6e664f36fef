use Rattle.std.proofs.Common.{◌≡◌, ◌++◌, map}
use Rattle.std.specs.List.{range_with_len}
use Rattle.stream_jobs.specs.Rates.{table_recurs}
use Rattle.stream_jobs.proofs.rates.push_tables.Given as goal

abbrev pub invariant-loop-table : goal.invariant-loop-table
invariant-loop-table l = l.recurring.items ≡ l.fn.recurring.items ++ map (table_recurs l.description) (range_with_len 0 l.table)
