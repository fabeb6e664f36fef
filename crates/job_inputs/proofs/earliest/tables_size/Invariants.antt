use Rattle.std.proofs.Common.{◌≡◌, ◌-◌, ◌^◌, min, take}
use Rattle.std.specs.Prelude.{sum_by}
use Rattle.job_units.specs.Moments.{table_size}
use Rattle.job_inputs.proofs.earliest.tables_size.Given as goal

abbrev pub invariant-loop-table : goal.invariant-loop-table
invariant-loop-table l = l.size ≡ min (sum_by (table_size l.number) (take l.table-index l.tables)) (2 ^ 64 - 1)
