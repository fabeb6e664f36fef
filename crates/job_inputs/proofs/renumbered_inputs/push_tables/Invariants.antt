use Rattle.std.proofs.Common.{◌≡◌, ◌++◌, map}
use Rattle.job_inputs.specs.RenumberedInputs.{table_with}
use Rattle.job_inputs.proofs.renumbered_inputs.push_tables.Given as goal

abbrev pub invariant-loop-table : goal.invariant-loop-table
invariant-loop-table l =
    (goal.iterator-loop-table).can_next l.table-iterator ×
    (goal.iterator-loop-table).is_finite l.table-iterator ×
    (l.tables.items ++ map (table_with l.numbers) l.table-iterator.rest.items ≡ l.initial.tables.items ++ map (table_with l.numbers) l.fn.found.items)
