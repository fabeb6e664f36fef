-- The rows that an event adds.
use Rattle.std.specs.Prelude.{◌+◌, ◌-◌, ◌^◌, min, nat_lt, if◌then◌else◌, ℕ, List, [], ◌∷◌, ◌++◌, codes, flat_map, Option, Some, None}
use Rattle.events.specs.declared.event.Event.{Event}
use Rattle.events.specs.declared.event.Event.TheVariants.{Input, Stream, Late, ElementaryLate, Unclocked, Continuity}
use Rattle.events.specs.declared.event.Event.TheVariants.{Buffer, Marks, System, Clock, Table, Pid, Unreferenced, Missing, Check, Summary}
use Rattle.events.specs.declared.timed_event.TimedEvent.{TimedEvent}
use Rattle.events.specs.declared.check_counts.CheckTotals.{CheckTotals}
use Rattle.events.specs.declared.event.StreamBegin.{StreamBegin}
use Rattle.events.specs.declared.input_event.InputEvent.{InputEvent}
use Rattle.events.specs.declared.input_event.InputEvent.TheVariants as inputs
use Rattle.events.specs.declared.fault.Fault.{Fault}
use Rattle.events.specs.declared.summary.FaultTotals.{FaultTotals}
use Rattle.events.specs.declared.summary.SummaryEvent.{SummaryEvent}
use Rattle.events.specs.declared.summary.SummaryEvent.TheVariants as totals
use Rattle.events.specs.declared.summary.Verdict.{Verdict}
use Rattle.view_rows.specs.declared.cells.Cell.{Cell}
use Rattle.events.specs.declared.fault_kind.FaultKind.TheVariants as kinds
use Rattle.view_rows.specs.declared.rows.TheConstants.{MOST_FAULTS}
use Rattle.view_rows.specs.Cells.{cell, row}
use Rattle.view_rows.specs.RowCells.{buffer_cells, check_cells, clock_cells, continuity_cells, elementary_late_cells, late_cells, pid_cells}
use Rattle.view_rows.specs.RowCells.{reference_cells, stream_cells, system_cells, table_cells, unclocked_cells}
use Rattle.view_rows.specs.InputCells.{empty_cells, no_stream_cells, no_stamps_cells, other_rate_cells, packet_size_cells, rest_cells, slip_cells}
use Rattle.page_curves.specs.PidLabels.{LabelsState}
use Rattle.view_rows.specs.MarkCells.{mark_cells}
use Rattle.view_rows.specs.SummaryCells.{failure_if, fault_cells, sentence_text, time_cells, totals_cells}
use Rattle.view_rows.specs.FaultRows.{buffer_of, fault_buffer}
use Rattle.view_rows.specs.RowTexts.{RowTexts}

abbrev pub no_rows : RowTexts
no_rows = record {
  verdict = [];
  checks = [];
  kinds = [];
  streams = [];
  buffers = [];
  marks = [];
  systems = [];
  clocks = [];
  tables = [];
  pids = [];
  apart =
      [];
  faults = [];
  count = 0;
}

-- the row of a fault: when it is, and its cells
abbrev pub fault_row : LabelsState → Option Fault → List Cell → List ℕ
fault_row labels fault cells = codes "<tr>" ++ (flat_map (cell labels) (time_cells fault) ++ flat_map (cell labels) cells)

abbrev pub with_fault_row : LabelsState → Option Fault → RowTexts → List Cell → RowTexts
with_fault_row labels fault r cells =
    record r { faults = r.faults ++ record { buffer = fault_buffer fault; cells = fault_row labels fault cells } ∷ [] }

-- a fault has a row if fewer than 100 have come before it; their number stops at 2^64 - 1
abbrev pub with_fault : LabelsState → Option Fault → RowTexts → List Cell → RowTexts
with_fault labels fault r cells = record r {
  faults = if nat_lt r.count MOST_FAULTS then r.faults ++ record { buffer = fault_buffer fault; cells = fault_row labels fault cells } ∷ [] else r.faults;
  count = min (r.count + 1) (2 ^ 64 - 1);
}

-- the row of a fault, if there is one, with what every fault has: its kind, its place, its packet, its value and limit
unfoldable pub with_known_fault : LabelsState → RowTexts → Option Fault → RowTexts
with_known_fault labels r None = r
with_known_fault labels r (Some fault) = with_fault labels (Some fault) r (fault_cells fault)

abbrev pub begun_row : LabelsState → List Cell → List ℕ
begun_row labels cells = codes "<tr>" ++ flat_map (cell labels) cells

abbrev pub totals_row : LabelsState → FaultTotals → List ℕ
totals_row labels e = begun_row labels (totals_cells e)

abbrev pub with_totals : LabelsState → RowTexts → FaultTotals → RowTexts
with_totals labels r e = record r { kinds = r.kinds ++ record { buffer = buffer_of e.kind e.source; cells = totals_row labels e } ∷ [] }

-- a check has a row, and a sentence before the verdict if it has failed
abbrev pub with_check : LabelsState → RowTexts → CheckTotals → RowTexts
with_check labels r e = record r { verdict = r.verdict ++ failure_if e; checks = r.checks ++ row labels (check_cells e) }

abbrev pub with_sentence : RowTexts → Verdict → RowTexts
with_sentence r verdict = record r { verdict = r.verdict ++ sentence_text verdict }

-- the totals of the stream
unfoldable pub with_summary : LabelsState → RowTexts → SummaryEvent → RowTexts
with_summary labels r (totals.Faults e) = with_totals labels r e
with_summary labels r (totals.Verdict e) = with_sentence r e

-- an event that says more than its fault has cells of its own
unfoldable pub with_fault_event : LabelsState → Option Fault → RowTexts → Event → RowTexts
with_fault_event labels fault r (Late e) = with_fault labels fault r (late_cells e)
with_fault_event labels fault r (ElementaryLate e) = with_fault labels fault r (elementary_late_cells e)
with_fault_event labels fault r (Unclocked e) = with_fault labels fault r (unclocked_cells e)
with_fault_event labels fault r (Continuity e) = with_fault labels fault r (continuity_cells e)
with_fault_event labels fault r _ = with_known_fault labels r fault

-- how the bytes of the input are packets: packets of another size are no fault
unfoldable pub with_input : LabelsState → Option Fault → RowTexts → InputEvent → RowTexts
with_input labels fault r (inputs.Slip e) = with_fault labels fault r (slip_cells e)
with_input labels fault r (inputs.PacketSize size) = record r { apart = r.apart ++ row labels (packet_size_cells size) }
with_input labels fault r inputs.Empty = with_fault labels fault r empty_cells
with_input labels fault r (inputs.NoStream form) = with_fault labels fault r (no_stream_cells form)
with_input labels fault r (inputs.OtherRate e) = with_fault labels fault r (other_rate_cells e)
with_input labels fault r (inputs.Rest e) = with_fault labels fault r (rest_cells e)
with_input labels fault r inputs.NoStamps = with_fault labels fault r no_stamps_cells
with_input labels fault r (inputs.StampJump e) = with_known_fault labels r fault

abbrev pub with_stream : LabelsState → RowTexts → StreamBegin → RowTexts
with_stream labels r e = record r { streams = r.streams ++ record { pid = e.pid; cells = flat_map (cell labels) (stream_cells e) } ∷ [] }

-- an event
unfoldable pub with_kind : LabelsState → Option Fault → RowTexts → Event → RowTexts
with_kind labels fault r (Input e) = with_input labels fault r e
with_kind labels fault r (Stream e) = with_stream labels r e
with_kind labels fault r (Buffer e) = record r { buffers = r.buffers ++ row labels (buffer_cells e) }
with_kind labels fault r (Marks e) = record r { marks = r.marks ++ row labels (mark_cells e) }
with_kind labels fault r (System e) = record r { systems = r.systems ++ row labels (system_cells e) }
with_kind labels fault r (Clock e) = record r { clocks = r.clocks ++ row labels (clock_cells e) }
with_kind labels fault r (Table e) = record r { tables = r.tables ++ row labels (table_cells e) }
with_kind labels fault r (Pid e) = record r { pids = r.pids ++ row labels (pid_cells e) }
with_kind labels fault r (Unreferenced e) = record r { apart = r.apart ++ row labels (reference_cells kinds.Unreferenced e) }
with_kind labels fault r (Missing e) = record r { apart = r.apart ++ row labels (reference_cells kinds.Missing e) }
with_kind labels fault r (Check e) = with_check labels r e
with_kind labels fault r (Summary e) = with_summary labels r e
with_kind labels fault r event = with_fault_event labels fault r event

-- an event with its fault, if it is a fault
abbrev pub with_event : LabelsState → RowTexts → TimedEvent → RowTexts
with_event labels r e = with_kind labels e.fault r e.event
