use Rattle.std.proofs.Common.{◌≡◌, ◌++◌, List, string_bytes, subst}
use Rattle.std.specs.Prelude.{OnOk}
use Rattle.view_rows.specs.declared.cells.Cell.{Cell}
use Rattle.view_rows.specs.Rows.{begun_row}
use Rattle.view_rows.proofs.rows.write_totals_row.Goals as goal

pub returns : goal.returns
returns c =
    subst
    (λ (cells : List Cell). OnOk c.write_begun.result (string_bytes c.write_begun.new.text ≡ string_bytes c.args.text.now ++ begun_row c.args.labels.now cells))
    c.totals_cells.ensures c.write_begun.ensures
