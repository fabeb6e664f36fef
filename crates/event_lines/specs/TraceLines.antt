-- The lines of the bytes in a buffer near its greatest excess (docs/VIEW_LINES.md).
use Rattle.std.specs.Prelude.{ℕ, Bool, if◌then◌else◌, List, [], ◌∷◌, ◌++◌, codes, flat_map, Option, Some, None}
use Rattle.events.specs.declared.rule_event.TracePoint.{TracePoint}
use Rattle.events.specs.BufferKinds.{word_of}
use Rattle.event_lines.specs.FieldViews.{FieldView}
use Rattle.event_lines.specs.ReportLines.{field_text, line_of, number_field, word_field}

-- the place and time at which bytes enter the buffer
abbrev pub place_line : Bool → TracePoint → List ℕ
place_line json e = line_of json (codes "fault_trace")
    (number_field (codes "pid") e.pid ∷ word_field (codes "buffer") (word_of e.buffer)
    ∷ number_field (codes "packet") e.packet ∷ number_field (codes "left") e.left ∷ [])

-- the bytes in the buffer
abbrev pub flag : Bool → ℕ
flag begins = if begins then 1 else 0

abbrev pub byte_fields : TracePoint → List FieldView
byte_fields e =
    number_field (codes "most") e.most ∷ number_field (codes "size") e.size
    ∷ number_field (codes "peak") e.peak ∷ number_field (codes "begins") (flag e.begins) ∷ []

-- the least is known for a main buffer only
unfoldable pub least_text : Bool → Option ℕ → List ℕ
least_text json None = []
least_text json (Some least) = field_text json (number_field (codes "least") least)

abbrev pub trace_line : Bool → TracePoint → List ℕ
trace_line json e = place_line json e ++ (flat_map (field_text json) (byte_fields e) ++ least_text json e.least)
