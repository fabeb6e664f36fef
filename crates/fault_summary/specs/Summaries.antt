-- The totals of the events of a stream: its faults by check, and by kind and source, and the bytes in its buffers.
use Rattle.std.specs.Prelude.{ℕ, ◌+◌, ◌-◌, ◌^◌, ◌==◌, ◌||◌, min, Bool, true, false, List, ◌++◌, length, Option, Some, None}
use Rattle.events.specs.declared.check_counts.CheckCounts.{CheckCounts}
use Rattle.events.specs.declared.check_counts.StreamTime.{StreamTime}
use Rattle.events.specs.declared.event.Event.{Event}
use Rattle.events.specs.declared.event.Event.TheVariants as events
use Rattle.events.specs.declared.fault.Fault.{Fault}
use Rattle.events.specs.declared.rule_event.RuleEvent.{RuleEvent}
use Rattle.events.specs.declared.rule_event.RuleEvent.TheVariants as rules
use Rattle.events.specs.CheckCounts.{no_faults, with_counted}
use Rattle.events.specs.CheckCounts as counts
use Rattle.fault_summary.specs.BufferFigures.{no_buffer}
use Rattle.fault_summary.specs.BufferFigures as figures
use Rattle.fault_summary.specs.FaultRows.{RowEntries, no_rows, row_events}
use Rattle.fault_summary.specs.FaultRows as faults
use Rattle.fault_summary.specs.SyncRuns.{no_run, with_loss}
use Rattle.fault_summary.specs.SyncRuns as runs
use Rattle.fault_summary.specs.declared.sync_runs.SyncRun.{SyncRun}
use Rattle.fault_summary.specs.Verdicts.{check_verdict, verdict_events}
use Rattle.fault_summary.specs.declared.buffer_figures.BufferFigures.{BufferFigures}

pub record SummaryState : Type 0 where
  pub counts : CheckCounts
  pub rows : RowEntries
  pub faults : ℕ
  pub run : SyncRun
  pub figures : BufferFigures
  pub varies : Bool

-- before the first event; `varies` if the stream's rate is known to vary
abbrev pub nothing : Bool → SummaryState
nothing varies = record { counts = no_faults; rows = no_rows; faults = 0; run = no_run; figures = no_buffer; varies = varies }

-- 1. An event, with the fault that it says there is

unfoldable pub is_variable_rule : RuleEvent → Bool
is_variable_rule (rules.VariableRate e) = true
is_variable_rule _ = false

unfoldable pub is_variable : Event → Bool
is_variable (events.Rule e) = is_variable_rule e
is_variable _ = false

abbrev pub with_figures : SummaryState → Event → SummaryState
with_figures s event = record {
  counts = s.counts;
  rows = s.rows;
  faults = s.faults;
  run = s.run;
  figures = figures.with_event s.figures event;
  varies = s.varies || is_variable event;
}

-- a loss of synchronization counts in its check alone
abbrev pub with_fault : SummaryState → Fault → SummaryState
with_fault s fault = record {
  counts = with_counted (with_loss s.counts s.run fault) fault;
  rows = faults.with_fault s.rows fault;
  faults = min (s.faults + 1) (2 ^ 64 - 1);
  run = runs.with_fault s.run fault;
  figures = s.figures;
  varies = s.varies;
}

unfoldable pub with_fault_if : SummaryState → Option Fault → SummaryState
with_fault_if s None = s
with_fault_if s (Some fault) = with_fault s fault

abbrev pub with_event : SummaryState → Event → Option Fault → SummaryState
with_event s event fault = with_fault_if (with_figures s event) fault

abbrev pub is_good : SummaryState → Bool
is_good s = length s.rows == 0

-- 2. At the end: the row of each check, faults by kind and source, and the verdict

abbrev pub time_of : SummaryState → Bool → StreamTime
time_of s clocked = record { clocked = clocked; varies = s.varies }

abbrev pub check_rows : SummaryState → Bool → List Event
check_rows s clocked = counts.rows (time_of s clocked) s.counts

abbrev pub end_events : SummaryState → Bool → Bool → List Event
end_events s good clocked = check_rows s clocked ++ (row_events s.rows ++ verdict_events good s.faults s.figures s.rows (check_verdict (check_rows s clocked)))
