use Rattle.std.proofs.Common.{◌≡◌, ◌++◌, drop, string_bytes}
use Rattle.std.specs.Prelude.{flat_map}
use Rattle.view_rows.specs.Cells.{cell}
use Rattle.view_rows.proofs.cells.write_cells.Given as goal

abbrev pub invariant-loop-cell : goal.invariant-loop-cell
invariant-loop-cell l = string_bytes l.text ++ flat_map (cell l.labels) (drop l.cell-index l.cells) ≡ string_bytes l.fn.text ++ flat_map (cell l.labels) l.cells
