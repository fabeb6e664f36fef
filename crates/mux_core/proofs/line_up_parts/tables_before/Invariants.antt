use Rattle.std.proofs.Common.{take}
use Rattle.description_parts.specs.Tables.{table_kinds}
use Rattle.mux_core.specs.Exchanges.{IsEach}
use Rattle.mux_core.specs.LineUpSteps.{table_number_before}
use Rattle.mux_core.proofs.line_up_parts.tables_before.Given as goal

abbrev pub invariant-loop-number : goal.invariant-loop-number
invariant-loop-number l = IsEach (table_number_before l.old l.new) (take l.number (table_kinds l.new)) l.numbers.items
