-- The cells of the row of each event of the input.
use Rattle.std.specs.Prelude.{ℕ, List, [], ◌∷◌}
use Rattle.packet_sync.specs.declared.file_form.FileForm.{FileForm}
use Rattle.events.specs.declared.input_event.OtherRate.{OtherRate}
use Rattle.events.specs.declared.input_event.RestBytes.{RestBytes}
use Rattle.events.specs.declared.input_event.SlippedBytes.{SlippedBytes}
use Rattle.events.specs.declared.fault_kind.FaultKind.TheVariants as kinds
use Rattle.view_rows.specs.declared.cells.Cell.{Cell}
use Rattle.view_rows.specs.declared.cells.Cell.TheVariants.{Number, Word, Form}
use Rattle.view_rows.specs.declared.cells.CellUnit.TheVariants.{Same}
use Rattle.view_rows.specs.declared.cells.CellWord.TheVariants as words
use Rattle.view_rows.specs.Cells.{short}

-- cells for bytes that are in no packet
abbrev pub slip_cells : SlippedBytes → List Cell
slip_cells e =
    Word (words.Fault kinds.Slip) ∷ Word words.Nothing ∷ Number e.packet Same ∷ Number e.bytes Same ∷ Word words.Nothing ∷ Word words.Bytes ∷ []

-- cells for bytes after the last whole packet
abbrev pub rest_cells : RestBytes → List Cell
rest_cells e =
    Word (words.Fault kinds.Rest) ∷ Word words.Nothing ∷ Number e.packet Same ∷ Number e.bytes Same ∷ Word words.Nothing ∷ Word words.Bytes ∷ []

-- cells for packets that do not have 188 bytes
abbrev pub packet_size_cells : ℕ → List Cell
packet_size_cells size = Number size Same ∷ Word words.PacketSize ∷ []

-- cells for an input without a byte
abbrev pub empty_cells : List Cell
empty_cells =
    Word (words.Fault kinds.Empty) ∷ Word words.Nothing ∷ Word words.Nothing ∷ Word words.Nothing ∷ Word words.Nothing ∷ Word words.Nothing ∷ []

-- cells for an input that is no transport stream
abbrev pub no_stream_cells : FileForm → List Cell
no_stream_cells form =
    Word (words.Fault kinds.NoStream) ∷ Word words.Nothing ∷ Word words.Nothing ∷ Word words.Nothing ∷ Word words.Nothing ∷ Form form ∷ []

-- cells for a rate that the clock references contradict
abbrev pub other_rate_cells : OtherRate → List Cell
other_rate_cells e =
    Word (words.Fault kinds.OtherRate) ∷ Number e.pid Same ∷ Word words.Nothing ∷ Number (short e.references) Same ∷ Number e.given Same
    ∷ Word words.BitRate ∷ []

-- cells for packets without the arrival time stamps that are asked for
abbrev pub no_stamps_cells : List Cell
no_stamps_cells =
    Word (words.Fault kinds.NoStamps) ∷ Word words.Nothing ∷ Word words.Nothing ∷ Word words.Nothing ∷ Word words.Nothing ∷ Word words.Nothing ∷ []
