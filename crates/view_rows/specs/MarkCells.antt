-- The table of the marks of units: its head, and the cells of a row.
use Rattle.std.specs.Prelude.{ℕ, List, [], ◌∷◌}
use Rattle.events.specs.declared.mark_event.MarkTotals.{MarkTotals}
use Rattle.view_rows.specs.declared.cells.Cell.{Cell}
use Rattle.view_rows.specs.declared.mark_cells.TheConstants.{MARKS}
use Rattle.view_rows.specs.declared.cells.Cell.TheVariants.{Number, Carried}
use Rattle.view_rows.specs.declared.cells.CellUnit.TheVariants.{Same, Ticks}

unfoldable pub marks_text : List ℕ
marks_text = MARKS.now

-- units, units at which a decoder may begin, the greatest time from one such unit to the next, and aligned units
abbrev pub mark_cells : MarkTotals → List Cell
mark_cells e =
    Number e.pid Same ∷ Carried e.pid ∷ Number e.units Same ∷ Number e.access Same ∷ Number e.distance Ticks ∷ Number e.aligned Same ∷ []
