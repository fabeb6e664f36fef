-- The line of each event (docs/VIEW.md): its word and its fields, in this order.
use Rattle.std.specs.Prelude.{ℕ, ◌&&◌, not, if◌then◌else◌, Bool, false, List, [], ◌∷◌, ◌++◌, codes, flat_map, Option, Some, None}
use Rattle.events.specs.declared.event.BufferExcess.{BufferExcess}
use Rattle.events.specs.declared.event.BufferTotals.{BufferTotals}
use Rattle.events.specs.declared.event.ClockFault.{ClockFault}
use Rattle.events.specs.declared.event.ClockTotals.{ClockTotals}
use Rattle.events.specs.declared.event.Event.{Event}
use Rattle.events.specs.declared.event.Event.TheVariants as events
use Rattle.events.specs.declared.event.FarAhead.{FarAhead}
use Rattle.events.specs.declared.event.HeldFigures.{HeldFigures}
use Rattle.events.specs.declared.event.LateUnit.{LateUnit}
use Rattle.events.specs.declared.event.PidTotals.{PidTotals}
use Rattle.events.specs.declared.event.ReportEnd.{ReportEnd}
use Rattle.events.specs.declared.event.StreamBegin.{StreamBegin}
use Rattle.events.specs.declared.event.SystemTotals.{SystemTotals}
use Rattle.events.specs.declared.event.TableFault.{TableFault}
use Rattle.events.specs.declared.event.TableTotals.{TableTotals}
use Rattle.events.specs.declared.event.UnclockedPackets.{UnclockedPackets}
use Rattle.events.specs.declared.event.UnitFigures.{UnitFigures}
use Rattle.events.specs.declared.fault_kind.FaultKind.{FaultKind}
use Rattle.events.specs.declared.timed_event.TimedEvent.{TimedEvent}
use Rattle.events.specs.BufferKinds.{excess_kind, owner_word, word_of as buffer_word}
use Rattle.events.specs.FaultKinds.{word_of}
use Rattle.event_lines.specs.FaultLines.{check_word_line, continuity_line, refused_line}
use Rattle.event_lines.specs.declared.event_lines.LineForm.{LineForm}
use Rattle.event_lines.specs.FieldViews.{FieldView}
use Rattle.event_lines.specs.InputLines.{input_line}
use Rattle.event_lines.specs.MarkLines.{marks_line}
use Rattle.events.specs.PidNames.{line_word}
use Rattle.event_lines.specs.ReportLines.{field_text, first_text, last_text, line_of, name_text, number_field, number_text, quoted, word_field}
use Rattle.event_lines.specs.RuleLines.{rule_line}
use Rattle.event_lines.specs.SummaryLines.{check_line, fault_time, is_sentence, summary_line}
use Rattle.event_lines.specs.VideoLines.{elementary_late_line}
use Rattle.events.specs.Windows.{WindowView}

-- 1. The lines of a PID in a window

-- `program N coding WORD`, or `coding WORD` for a PID of no program
unfoldable pub program_text : Bool → Option ℕ → List ℕ
program_text json None = []
program_text json (Some program) = field_text json (number_field (codes "program") program)

-- `service "NAME"` of a program whose service has a name
unfoldable pub service_text : Bool → Option (List ℕ) → List ℕ
service_text json None = []
service_text json (Some name) = name_text json (codes "service") ++ quoted name

abbrev pub count_fields : WindowView → List FieldView
count_fields w =
    number_field (codes "number") w.number ∷ number_field (codes "pid") w.pid ∷ number_field (codes "packets") w.packets
    ∷ number_field (codes "pcrs") w.pcrs ∷ number_field (codes "rate") w.rate ∷ []

abbrev pub label_text : Bool → WindowView → List ℕ
label_text json w = program_text json w.program ++ (field_text json (word_field (codes "coding") (line_word w.coding)) ++ service_text json w.service)

abbrev pub window_line : Bool → WindowView → List ℕ
window_line json w = first_text json (codes "window") ++ (flat_map (field_text json) (count_fields w) ++ label_text json w)

-- 2. What else is found

abbrev pub stream_line : Bool → StreamBegin → List ℕ
stream_line json e = line_of json (codes "stream")
    (number_field (codes "pid") e.pid ∷ number_field (codes "program") e.program ∷ number_field (codes "type") e.stream_type
    ∷ word_field (codes "coding") (line_word e.coding) ∷ number_field (codes "rx") e.rx ∷ number_field (codes "main") e.main
    ∷ number_field (codes "packet") e.packet ∷ [])

-- a line whose word is that of the fault's kind
abbrev pub excess_line : Bool → BufferExcess → List ℕ
excess_line json e = line_of json (word_of (excess_kind e.buffer))
    (number_field (owner_word e.buffer) e.number ∷ number_field (codes "packet") e.packet ∷ number_field (codes "begin") e.begin
    ∷ number_field (codes "end") e.end ∷ number_field (codes "peak") e.peak ∷ number_field (codes "size") e.size ∷ [])

abbrev pub late_line : Bool → LateUnit → List ℕ
late_line json e = line_of json (codes "late")
    (number_field (codes "pid") e.pid ∷ number_field (codes "packet") e.packet ∷ number_field (codes "due") e.due
    ∷ number_field (codes "left") e.left ∷ number_field (codes "by") e.by ∷ number_field (codes "bytes") e.bytes ∷ [])

abbrev pub ahead_line : Bool → FarAhead → List ℕ
ahead_line json e = line_of json (codes "ahead")
    (number_field (codes "pid") e.pid ∷ number_field (codes "packet") e.packet ∷ number_field (codes "by") e.by
    ∷ number_field (codes "limit") e.limit ∷ [])

abbrev pub clock_fault_line : Bool → FaultKind → ClockFault → List ℕ
clock_fault_line json kind e = line_of json (word_of kind)
    (number_field (codes "pid") e.pid ∷ number_field (codes "packet") e.packet ∷ number_field (codes "value") e.value
    ∷ number_field (codes "limit") e.limit ∷ [])

abbrev pub table_fault_line : Bool → FaultKind → TableFault → List ℕ
table_fault_line json kind e = line_of json (word_of kind)
    (number_field (codes "pid") e.pid ∷ number_field (codes "table") e.table ∷ number_field (codes "packet") e.packet
    ∷ number_field (codes "value") e.value ∷ number_field (codes "limit") e.limit ∷ [])

abbrev pub unclocked_line : Bool → UnclockedPackets → List ℕ
unclocked_line json e = line_of json (codes "unclocked")
    (number_field (codes "packet") e.packet ∷ number_field (codes "packets") e.packets ∷ [])

abbrev pub held_line : Bool → HeldFigures → List ℕ
held_line json e = line_of json (codes "held")
    (number_field (codes "number") e.number ∷ number_field (codes "pid") e.pid ∷ number_field (codes "transport") e.transport
    ∷ number_field (codes "main") e.main ∷ number_field (codes "main_least") e.main_least ∷ [])

abbrev pub units_line : Bool → UnitFigures → List ℕ
units_line json e = line_of json (codes "units")
    (number_field (codes "number") e.number ∷ number_field (codes "pid") e.pid ∷ number_field (codes "units") e.units
    ∷ number_field (codes "late") e.late ∷ number_field (codes "slack") e.slack ∷ [])

-- a line whose word is that of the buffer, with counts of units if the buffer has them
abbrev pub bytes_line : Bool → BufferTotals → List ℕ
bytes_line json e = line_of json (buffer_word e.buffer)
    (number_field (codes "pid") e.pid ∷ number_field (codes "most") e.most ∷ number_field (codes "size") e.size
    ∷ number_field (codes "excesses") e.excesses ∷ [])

abbrev pub buffer_line : Bool → BufferTotals → List ℕ
buffer_line json e = bytes_line json e
    ++ (number_text json (codes "units") e.units ++ (number_text json (codes "late") e.late ++ number_text json (codes "unread") e.unread))

abbrev pub system_line : Bool → SystemTotals → List ℕ
system_line json e = line_of json (codes "system")
    (number_field (codes "program") e.program ∷ number_field (codes "transport") e.transport
    ∷ number_field (codes "transport_size") e.transport_size ∷ number_field (codes "transport_excesses") e.transport_excesses
    ∷ number_field (codes "main") e.main ∷ number_field (codes "main_size") e.main_size ∷ number_field (codes "main_excesses") e.main_excesses ∷ [])

abbrev pub clock_line : Bool → ClockTotals → List ℕ
clock_line json e = line_of json (codes "clock")
    (number_field (codes "pid") e.pid ∷ number_field (codes "references") e.references ∷ number_field (codes "announced") e.announced
    ∷ number_field (codes "rate") e.rate ∷ number_field (codes "interval") e.interval ∷ number_field (codes "inaccuracy") e.inaccuracy ∷ [])

abbrev pub table_line : Bool → TableTotals → List ℕ
table_line json e = line_of json (codes "table")
    (number_field (codes "pid") e.pid ∷ number_field (codes "table") e.table ∷ number_field (codes "sections") e.sections
    ∷ number_field (codes "interval") e.interval ∷ number_field (codes "packet") e.packet ∷ number_field (codes "limit") e.limit ∷ [])

abbrev pub pid_line : Bool → PidTotals → List ℕ
pid_line json e = line_of json (codes "pid")
    (number_field (codes "number") e.number ∷ number_field (codes "packets") e.packets ∷ number_field (codes "pcrs") e.pcrs ∷ [])

abbrev pub end_line : Bool → ReportEnd → List ℕ
end_line json e = line_of json (codes "end")
    (number_field (codes "packets") e.packets ∷ number_field (codes "refused") e.refused ∷ number_field (codes "left") e.left ∷ [])

-- a line with a PID alone
abbrev pub reference_line : Bool → List ℕ → ℕ → List ℕ
reference_line json word pid = line_of json word (number_field (codes "pid") pid ∷ [])

-- 3. Any event, and events one after another

unfoldable pub event_line : Bool → Event → List ℕ
event_line json (events.Input e) = input_line json e
event_line json (events.Stream e) = stream_line json e
event_line json (events.Window w) = window_line json w
event_line json (events.Held e) = held_line json e
event_line json (events.Units e) = units_line json e
event_line json (events.Excess e) = excess_line json e
event_line json (events.Late e) = late_line json e
event_line json (events.ElementaryLate e) = elementary_late_line json e
event_line json (events.Ahead e) = ahead_line json e
event_line json (events.ClockFault kind e) = clock_fault_line json kind e
event_line json (events.TableFault kind e) = table_fault_line json kind e
event_line json (events.Unclocked e) = unclocked_line json e
event_line json (events.Refused e) = refused_line json e
event_line json (events.Continuity e) = continuity_line json e
event_line json (events.CheckWord e) = check_word_line json e
event_line json (events.Buffer e) = buffer_line json e
event_line json (events.Marks e) = marks_line json e
event_line json (events.System e) = system_line json e
event_line json (events.Clock e) = clock_line json e
event_line json (events.Table e) = table_line json e
event_line json (events.Pid e) = pid_line json e
event_line json (events.Unreferenced pid) = reference_line json (codes "unreferenced") pid
event_line json (events.Missing pid) = reference_line json (codes "missing") pid
event_line json (events.Check e) = check_line json e
event_line json (events.End e) = end_line json e
event_line json (events.Rule e) = rule_line json e
event_line json (events.Summary e) = summary_line json e

-- the line of an event, with its time if it is a fault
abbrev pub timed_line : Bool → TimedEvent → List ℕ
timed_line json e = event_line json e.event ++ (fault_time json e.fault ++ last_text json)

unfoldable pub is_verdict : Event → Bool
is_verdict (events.Summary e) = is_sentence e
is_verdict _ = false

-- all events, or the verdict alone
abbrev pub line_in : LineForm → TimedEvent → List ℕ
line_in form e = if form.quiet && not (is_verdict e.event) then [] else timed_line form.json e

abbrev pub lines_of : LineForm → List TimedEvent → List ℕ
lines_of form events = flat_map (line_in form) events
