-- Totals of faults by kind and source.
use Rattle.std.specs.Prelude.{ℕ, ◌+◌, ◌*◌, nat_eq, List, [], map, Option, Some, None}
use Rattle.std.specs.Map.{lookup}
use Rattle.indexmap.specs.IndexMap.{insert_entry}
use Rattle.events.specs.declared.event.Event.{Event}
use Rattle.events.specs.declared.event.Event.TheVariants as events
use Rattle.events.specs.declared.fault.Fault.{Fault}
use Rattle.events.specs.declared.fault_kind.FaultKind.{FaultKind}
use Rattle.events.specs.declared.fault_kind.FaultSource.{FaultSource}
use Rattle.events.specs.declared.fault_kind.FaultSource.TheVariants.{Whole, Stream, Program, Table}
use Rattle.events.specs.declared.summary.FaultTotals.{FaultTotals}
use Rattle.events.specs.declared.summary.SummaryEvent.TheVariants as summaries
use Rattle.events.specs.FaultKinds.{place_of}
use Rattle.events.specs.FaultTotals.{totals_of}
use Rattle.events.specs.FaultTotals as totals

abbrev pub RowEntries : Type 0
RowEntries = List (ℕ × FaultTotals)

abbrev pub no_rows : RowEntries
no_rows = []

-- a kind and a source as one number
unfoldable pub number_of : FaultSource → ℕ
number_of Whole = 0
number_of (Stream pid) = pid
number_of (Program number) = number
number_of (Table pid table) = pid * 256 + table

abbrev pub key_of : FaultKind → FaultSource → ℕ
key_of kind source = place_of kind * 16777216 + number_of source

abbrev pub fault_key : Fault → ℕ
fault_key fault = key_of fault.kind fault.source

abbrev pub row_at : RowEntries → ℕ → Option FaultTotals
row_at rows key = lookup (nat_eq key) rows

-- one more
unfoldable pub totals_after : Option FaultTotals → Fault → FaultTotals
totals_after None fault = totals_of fault
totals_after (Some t) fault = totals.with_fault t fault

abbrev pub with_fault : RowEntries → Fault → RowEntries
with_fault rows fault = insert_entry nat_eq rows (fault_key fault) (totals_after (row_at rows (fault_key fault)) fault)

abbrev pub row_event : ℕ × FaultTotals → Event
row_event row = events.Summary (summaries.Faults row.1)

abbrev pub row_events : RowEntries → List Event
row_events rows = map row_event rows
