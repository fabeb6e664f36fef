-- The lines of events of the input (docs/VIEW.md): which packets it holds, and whether it is a transport stream.
use Rattle.std.specs.Prelude.{ℕ, Bool, List, [], ◌∷◌, codes}
use Rattle.packet_sync.specs.declared.file_form.FileForm.{FileForm}
use Rattle.events.specs.declared.input_event.InputEvent.{InputEvent}
use Rattle.events.specs.declared.input_event.InputEvent.TheVariants as inputs
use Rattle.events.specs.declared.input_event.OtherRate.{OtherRate}
use Rattle.events.specs.declared.input_event.RestBytes.{RestBytes}
use Rattle.events.specs.declared.input_event.SlippedBytes.{SlippedBytes}
use Rattle.events.specs.declared.input_event.StampJump.{StampJump}
use Rattle.packet_sync.specs.FileForms.{line_word}
use Rattle.event_lines.specs.ReportLines.{line_of, number_field, word_field}

abbrev pub slip_line : Bool → SlippedBytes → List ℕ
slip_line json e = line_of json (codes "slip")
    (number_field (codes "packet") e.packet ∷ number_field (codes "place") e.place ∷ number_field (codes "bytes") e.bytes ∷ [])

abbrev pub packet_size_line : Bool → ℕ → List ℕ
packet_size_line json size = line_of json (codes "packet_size") (number_field (codes "bytes") size ∷ [])

abbrev pub empty_line : Bool → List ℕ
empty_line json = line_of json (codes "empty") []

abbrev pub no_stream_line : Bool → FileForm → List ℕ
no_stream_line json form = line_of json (codes "no_stream") (word_field (codes "form") (line_word form) ∷ [])

abbrev pub other_rate_line : Bool → OtherRate → List ℕ
other_rate_line json e = line_of json (codes "other_rate")
    (number_field (codes "pid") e.pid ∷ number_field (codes "given") e.given ∷ number_field (codes "references") e.references ∷ [])

abbrev pub rest_line : Bool → RestBytes → List ℕ
rest_line json e = line_of json (codes "rest") (number_field (codes "packet") e.packet ∷ number_field (codes "bytes") e.bytes ∷ [])

abbrev pub no_stamps_line : Bool → List ℕ
no_stamps_line json = line_of json (codes "no_stamps") []

abbrev pub stamp_jump_line : Bool → StampJump → List ℕ
stamp_jump_line json e = line_of json (codes "stamp_jump")
    (number_field (codes "packet") e.packet ∷ number_field (codes "value") e.value ∷ number_field (codes "limit") e.limit ∷ [])

unfoldable pub input_line : Bool → InputEvent → List ℕ
input_line json (inputs.Slip e) = slip_line json e
input_line json (inputs.PacketSize size) = packet_size_line json size
input_line json inputs.Empty = empty_line json
input_line json (inputs.NoStream form) = no_stream_line json form
input_line json (inputs.OtherRate e) = other_rate_line json e
input_line json (inputs.Rest e) = rest_line json e
input_line json inputs.NoStamps = no_stamps_line json
input_line json (inputs.StampJump e) = stamp_jump_line json e
