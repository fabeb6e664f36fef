use Rattle.std.proofs.Common.{take}
use Rattle.description_parts.specs.Tables.{table_kinds}
use Rattle.mux_core.specs.Exchanges.{IsEach}
use Rattle.mux_core.specs.LineUpSteps.{made_carousel}
use Rattle.mux_core.proofs.line_up_parts.new_carousels.Given as goal

abbrev pub invariant-loop-table : goal.invariant-loop-table
invariant-loop-table g l = IsEach (made_carousel l.next l.slots) (take l.table (table_kinds l.next.description)) l.carousels.items
