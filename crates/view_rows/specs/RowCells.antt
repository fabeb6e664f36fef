-- The cells of the row of each event that has one.
use Rattle.std.specs.Prelude.{ℕ, List, [], ◌∷◌, Option, Some, None}
use Rattle.events.specs.declared.check_counts.CheckTotals.{CheckTotals}
use Rattle.events.specs.declared.check_counts.NoVerdict.{NoVerdict}
use Rattle.events.specs.declared.check_counts.NoVerdict.TheVariants as reasons
use Rattle.events.specs.declared.event.BufferTotals.{BufferTotals}
use Rattle.events.specs.declared.event.ClockTotals.{ClockTotals}
use Rattle.events.specs.declared.event.LateUnit.{LateUnit}
use Rattle.events.specs.declared.event.PidTotals.{PidTotals}
use Rattle.events.specs.declared.event.StreamBegin.{StreamBegin}
use Rattle.events.specs.declared.event.SystemTotals.{SystemTotals}
use Rattle.events.specs.declared.event.TableTotals.{TableTotals}
use Rattle.events.specs.declared.event.UnclockedPackets.{UnclockedPackets}
use Rattle.events.specs.declared.packet_fault.CounterFault.{CounterFault}
use Rattle.events.specs.declared.video_event.ElementaryLate.{ElementaryLate}
use Rattle.events.specs.declared.video_event.LateCause.{LateCause}
use Rattle.events.specs.declared.video_event.LateCause.TheVariants as late_causes
use Rattle.events.specs.declared.fault_kind.FaultKind.{FaultKind}
use Rattle.events.specs.declared.fault_kind.FaultKind.TheVariants as kinds
use Rattle.view_rows.specs.declared.cells.Cell.{Cell}
use Rattle.view_rows.specs.declared.cells.Cell.TheVariants.{Number, Checked, Bar, Word, CheckNumber, CheckName, Carried, Program}
use Rattle.view_rows.specs.declared.cells.CellUnit.TheVariants.{Same, Ticks}
use Rattle.view_rows.specs.declared.cells.CellWord.{CellWord}
use Rattle.view_rows.specs.declared.cells.CellWord.TheVariants as words
use Rattle.view_rows.specs.Cells.{limit_if, short}

-- cells for a stream, after its PID and what the PID carries
abbrev pub stream_cells : StreamBegin → List Cell
stream_cells e =
    Number e.stream_type Same ∷ Number e.rx Same ∷ Number e.main Same ∷ []

-- cells for a buffer: a count that the buffer has not is left out
unfoldable pub count_cell : Option ℕ → Option ℕ → Cell
count_cell None limit = Word words.Nothing
count_cell (Some count) limit = Checked count limit Same

abbrev pub buffer_cells : BufferTotals → List Cell
buffer_cells e =
    Number e.pid Same ∷ Carried e.pid ∷ Word (words.Buffer e.buffer) ∷ Number e.size Same ∷ Checked (short e.most) (Some e.size) Same
    ∷ Bar (short e.most) (Some e.size) ∷ Checked (short e.excesses) (Some 0) Same
    ∷ count_cell e.units None ∷ count_cell e.late (Some 0) ∷ count_cell e.unread (Some 0) ∷ []

-- cells for the buffers of a program's tables
abbrev pub system_cells : SystemTotals → List Cell
system_cells e =
    Program e.program ∷ Checked (short e.transport) (Some e.transport_size) Same ∷ Bar (short e.transport) (Some e.transport_size)
    ∷ Checked (short e.transport_excesses) (Some 0) Same ∷ Checked (short e.main) (Some e.main_size) Same
    ∷ Bar (short e.main) (Some e.main_size) ∷ Checked (short e.main_excesses) (Some 0) Same ∷ []

-- cells for clock references
abbrev pub clock_cells : ClockTotals → List Cell
clock_cells e =
    Number e.pid Same ∷ Number e.references Same ∷ Number e.announced Same ∷ Number (short e.rate) Same
    ∷ Checked (short e.interval) (Some 2700000) Ticks ∷ Bar (short e.interval) (Some 2700000) ∷ Checked (short e.inaccuracy) (Some 500) Same
    ∷ Bar (short e.inaccuracy) (Some 500) ∷ []

-- cells for a table
abbrev pub table_cells : TableTotals → List Cell
table_cells e =
    Number e.pid Same ∷ Number e.table Same ∷ Number e.sections Same ∷ Checked (short e.interval) (limit_if e.limit) Ticks
    ∷ Number e.limit Ticks ∷ Bar (short e.interval) (limit_if e.limit) ∷ []

-- cells for a PID
abbrev pub pid_cells : PidTotals → List Cell
pid_cells e =
    Number e.number Same ∷ Carried e.number ∷ Number e.packets Same ∷ Number e.pcrs Same ∷ []

-- cells for a late unit
abbrev pub late_cells : LateUnit → List Cell
late_cells e =
    Word (words.Fault kinds.Late) ∷ Number e.pid Same ∷ Number e.packet Same ∷ Number (short e.by) Ticks ∷ Word words.Nothing ∷ Word words.Millis ∷ []

-- cells for a unit that is late in the elementary stream buffer, and why
unfoldable pub late_word : LateCause → CellWord
late_word late_causes.Multiplex = words.LateByMultiplex
late_word late_causes.FullBuffer = words.LateByFullBuffer

abbrev pub elementary_late_cells : ElementaryLate → List Cell
elementary_late_cells e =
    Word (late_word e.cause) ∷ Number e.pid Same ∷ Number e.packet Same ∷ Number (short e.by) Ticks ∷ Word words.Nothing ∷ Word words.Millis ∷ []

-- cells for packets without a moment
abbrev pub unclocked_cells : UnclockedPackets → List Cell
unclocked_cells e =
    Word (words.Fault kinds.Unclocked) ∷ Word words.Nothing ∷ Number e.packet Same ∷ Number e.packets Same ∷ Word words.Nothing ∷ Word words.Packets ∷ []

-- cells for a PID and a kind of fault
abbrev pub reference_cells : FaultKind → ℕ → List Cell
reference_cells kind pid = Number pid Same ∷ Word (words.Fault kind) ∷ []

-- cells for a continuity_counter that does not follow
abbrev pub continuity_cells : CounterFault → List Cell
continuity_cells e =
    Word (words.Fault kinds.Continuity) ∷ Number e.pid Same ∷ Number e.packet Same ∷ Number e.found Same ∷ Number e.expected Same
    ∷ Word words.Nothing ∷ []

-- how often a check failed, with a mark if it did, or why it can't be made
unfoldable pub result_cell : Option NoVerdict → ℕ → Cell
result_cell None faults = Checked faults (Some 0) Same
result_cell (Some reasons.NoClock) faults = Word words.NoClock
result_cell (Some reasons.VariableRate) faults = Word words.RateVaries

-- cells for a check
abbrev pub check_cells : CheckTotals → List Cell
check_cells e =
    CheckNumber e.check ∷ CheckName e.check ∷ result_cell e.no_verdict e.count.faults ∷ Number e.count.first Same ∷ Number e.count.last Same ∷ []
