use Rattle.std.proofs.Common.{◌≡◌, ◌++◌, drop, string_bytes}
use Rattle.std.specs.Prelude.{flat_map}
use Rattle.view_page.specs.PageText.{stream_row}
use Rattle.view_page.proofs.page_text.write_stream_rows.Given as goal

abbrev pub invariant-loop-row : goal.invariant-loop-row
invariant-loop-row l = string_bytes l.text ++ flat_map (stream_row l.labels) (drop l.row-index l.rows) ≡ string_bytes l.fn.text
    ++ flat_map (stream_row l.labels) l.rows
