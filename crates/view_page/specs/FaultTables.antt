-- Rows of faults: a row has a link to the picture of the fault's buffer, if that picture is on the page.
use Rattle.std.specs.Prelude.{ℕ, List, [], ◌++◌, codes, Option, Some, None}
use Rattle.page_charts.specs.Links.{link_if}
use Rattle.page_charts.specs.PictureTexts.{PictureTexts}
use Rattle.view_rows.specs.declared.fault_rows.FaultBuffer.{FaultBuffer}
use Rattle.view_rows.specs.RowTexts.{FaultText}

unfoldable pub link : PictureTexts → Option FaultBuffer → List ℕ
link traces None = []
link traces (Some buffer) = link_if traces buffer.pid buffer.kind

unfoldable pub fault_row : PictureTexts → FaultText → List ℕ
fault_row traces r = r.cells ++ (link traces r.buffer ++ codes "\n")
