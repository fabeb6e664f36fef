-- The cells of a row.
use Rattle.std.specs.Prelude.{ℕ, ◌-◌, ◌*◌, ◌/◌, ◌^◌, ◌==◌, min, max, nat_lt, Bool, false, if◌then◌else◌, List, ◌++◌, codes, decimal, flat_map, Option, Some}
use Rattle.std.specs.Prelude.{None}
use Rattle.events.specs.declared.fault_kind.FaultKind.{FaultKind}
use Rattle.events.specs.declared.fault_kind.FaultKind.TheVariants as kinds
use Rattle.events.specs.declared.fault_kind.FaultSource.{FaultSource}
use Rattle.events.specs.declared.fault_kind.FaultSource.TheVariants as sources
use Rattle.events.specs.declared.rule_event.BufferKind.{BufferKind}
use Rattle.events.specs.declared.rule_event.BufferKind.TheVariants as buffers
use Rattle.packet_sync.specs.FileForms.{words}
use Rattle.events.specs.Checks.{name_of, number_of}
use Rattle.page_curves.specs.Numbers.{grouped, tenths}
use Rattle.page_curves.specs.PidLabels.{LabelsState, label_text}
use Rattle.view_rows.specs.declared.cells.CellUnit.{CellUnit}
use Rattle.view_rows.specs.declared.cells.CellUnit.TheVariants.{Same, Ticks}
use Rattle.view_rows.specs.declared.cells.CellWord.{CellWord}
use Rattle.view_rows.specs.declared.cells.CellWord.TheVariants.{Buffer, Fault}
use Rattle.view_rows.specs.declared.cells.CellWord.TheVariants.{LateByMultiplex, LateByFullBuffer, PacketSize, Bytes}
use Rattle.view_rows.specs.declared.cells.CellWord.TheVariants.{Packets, Millis, Nanos, BitRate, NoClock, RateVaries}
use Rattle.view_rows.specs.declared.cells.CellWord.TheVariants.{Nothing}
use Rattle.view_rows.specs.declared.cells.Cell.{Cell}
use Rattle.view_rows.specs.declared.cells.Cell.TheVariants.{Number, Checked, Bar, Word, CheckNumber, CheckName, Carried, Program, Source, Form}

-- what a kind of fault is called
unfoldable pub fault_text : FaultKind → List ℕ
fault_text kinds.Slip = codes "bytes in no packet"
fault_text kinds.Empty = codes "the input is empty"
fault_text kinds.NoStream = codes "the input is no transport stream"
fault_text kinds.OtherRate = codes "rate given, and another by the clock references"
fault_text kinds.Unclocked = codes "packets without a moment"
fault_text kinds.SyncByte = codes "packet without its sync byte"
fault_text kinds.Header = codes "packet with a header that can't be read"
fault_text kinds.TransportError = codes "packet with a transport error"
fault_text kinds.Continuity = codes "continuity counter that does not follow"
fault_text kinds.CheckWord = codes "section with a wrong check word"
fault_text kinds.Excess = codes "transport buffer over its size"
fault_text kinds.MainExcess = codes "main buffer over its size"
fault_text kinds.MultiplexingExcess = codes "multiplexing buffer (MB) over its size"
fault_text kinds.ElementaryExcess = codes "elementary stream buffer (EB) over its size"
fault_text kinds.SystemExcess = codes "transport buffer of tables over its size"
fault_text kinds.SystemMainExcess = codes "system buffer of tables over its size"
fault_text kinds.Late = codes "late unit"
fault_text kinds.ElementaryLate = codes "unit late in its elementary stream buffer (EB)"
fault_text kinds.Ahead = codes "unit too far ahead"
fault_text kinds.PcrRepetition = codes "clock reference too late"
fault_text kinds.PcrDiscontinuity = codes "clock reference that jumps"
fault_text kinds.PcrAccuracy = codes "inaccurate clock reference"
fault_text kinds.PtsRepetition = codes "PTS too long after the one before"
fault_text kinds.TableRepetition = codes "section too late"
fault_text kinds.SectionDistance = codes "section too soon after the one before"
fault_text kinds.OtherTable = codes "section that does not belong on its PID"
fault_text kinds.ScrambledTable = codes "scrambled packet of a table"
fault_text kinds.NoCat = codes "scrambled packets, and no conditional access table"
fault_text kinds.NotEmpty = codes "buffer that is not empty for too long"
fault_text kinds.Delayed = codes "byte that is in its buffer for too long"
fault_text kinds.Unreferenced = codes "has packets, and no table names it"
fault_text kinds.Missing = codes "has no packet, and the first tables name it"
fault_text kinds.Rest = codes "bytes after the last whole packet"
fault_text kinds.NoStamps = codes "packets without the arrival time stamps that are asked for"
fault_text kinds.StampJump = codes "arrival time stamp that jumps"
fault_text kinds.NoTable = codes "no whole section of the table"
fault_text kinds.PidRepetition = codes "no packet of the PID for too long"

-- what a buffer is called
unfoldable pub buffer_text : BufferKind → List ℕ
buffer_text buffers.Transport = codes "transport"
buffer_text buffers.Multiplexing = codes "multiplexing (MB)"
buffer_text buffers.Elementary = codes "elementary stream (EB)"
buffer_text buffers.Main = codes "main"
buffer_text buffers.TableTransport = codes "transport, of tables"
buffer_text buffers.System = codes "system"

unfoldable pub word_text : CellWord → List ℕ
word_text (Buffer buffer) = buffer_text buffer
word_text (Fault kind) = fault_text kind
word_text LateByMultiplex = codes "unit late in its elementary stream buffer (EB): sent too late or too fast"
word_text LateByFullBuffer = codes "unit late in its elementary stream buffer (EB): EB was full"
word_text PacketSize = codes "bytes from one packet to the next; 188 of them are viewed"
word_text Bytes = codes "bytes"
word_text Packets = codes "packets"
word_text Millis = codes "ms"
word_text Nanos = codes "ns"
word_text BitRate = codes "bit/s"
word_text NoClock = codes "can't be checked: no clock references"
word_text RateVaries = codes "can't be checked: the rate varies"
word_text Nothing = codes ""

-- numbers stop at 2^64 - 1
abbrev pub short : ℕ → ℕ
short n = min n (2 ^ 64 - 1)

-- a limit of 0 is none
abbrev pub limit_if : ℕ → Option ℕ
limit_if n = if n == 0 then None else Some n

unfoldable pub is_over : ℕ → Option ℕ → Bool
is_over value None = false
is_over value (Some limit) = nat_lt limit value

-- ticks of 27 MHz as ms
unfoldable pub scaled : ℕ → CellUnit → List ℕ
scaled value Same = grouped value
scaled value Ticks = tenths value 27000

-- a number, marked if it is over its limit
abbrev pub cell_head : Bool → List ℕ
cell_head over = if over then codes "<td class=\"bad\">&#9650; " else codes "<td>"

abbrev pub checked : ℕ → Option ℕ → CellUnit → List ℕ
checked value limit unit = cell_head (is_over value limit) ++ scaled value unit

-- a bar whose limit lies at 100, and that ends at 200
abbrev pub bar_length : ℕ → ℕ → ℕ
bar_length value limit = min (min value (2 ^ 50) * 100 / max limit 1) 200

abbrev pub bar_class : Bool → List ℕ
bar_class over = if over then codes "over" else codes "fill"

abbrev pub bar_to : List ℕ → ℕ → List ℕ
bar_to class length = codes "<td><svg class=\"bar\" viewBox=\"0 0 200 12\" aria-hidden=\"true\"><path class=\"" ++ (class ++ (codes "\" d=\"M0 6H"
    ++ (decimal length ++ codes "\"/><path class=\"mark\" d=\"M100 0V12\"/></svg>")))

unfoldable pub bar : ℕ → Option ℕ → List ℕ
bar value None = codes "<td>"
bar value (Some limit) = bar_to (bar_class (nat_lt limit value)) (bar_length value limit)

abbrev pub word_cell : List ℕ → List ℕ
word_cell word = codes "<td class=\"word\">" ++ word

-- the cell of a program
abbrev pub program_cell : ℕ → List ℕ
program_cell number = codes "<td>program " ++ decimal number

abbrev pub pid_cell : ℕ → List ℕ
pid_cell pid = codes "<td>" ++ decimal pid

-- the cell of a table on a PID
abbrev pub table_cell : ℕ → ℕ → List ℕ
table_cell pid table = codes "<td>" ++ (decimal pid ++ (codes ", table " ++ decimal table))

-- the cell that says where a fault is
unfoldable pub source_cell : FaultSource → List ℕ
source_cell sources.Whole = codes "<td>"
source_cell (sources.Stream pid) = pid_cell pid
source_cell (sources.Program number) = program_cell number
source_cell (sources.Table pid table) = table_cell pid table

-- the cell that says what a PID carries
unfoldable pub carried_cell : LabelsState → ℕ → List ℕ
carried_cell labels pid = codes "<td class=\"word\">" ++ label_text labels pid

unfoldable pub cell : LabelsState → Cell → List ℕ
cell labels (Number number unit) = checked number None unit
cell labels (Checked number limit unit) = checked number limit unit
cell labels (Bar number limit) = bar number limit
cell labels (Word word) = word_cell (word_text word)
cell labels (CheckNumber check) = word_cell (number_of check)
cell labels (CheckName check) = word_cell (name_of check)
cell labels (Carried pid) = carried_cell labels pid
cell labels (Program number) = program_cell number
cell labels (Source source) = source_cell source
cell labels (Form form) = word_cell (words form)

abbrev pub row : LabelsState → List Cell → List ℕ
row labels cells = codes "<tr>" ++ (flat_map (cell labels) cells ++ codes "\n")
