-- The verdict on a stream, as sentences.
use Rattle.std.specs.Prelude.{ℕ, ◌+◌, ◌-◌, ◌^◌, ◌==◌, ◌&&◌, min, not, is_none, if◌then◌else◌, Bool, List, [], ◌∷◌, ◌++◌, length, Option, Some, None}
use Rattle.events.specs.declared.check_counts.CheckTotals.{CheckTotals}
use Rattle.events.specs.declared.check_counts.NoVerdict.{NoVerdict}
use Rattle.events.specs.declared.event.Event.{Event}
use Rattle.events.specs.declared.event.Event.TheVariants as events
use Rattle.events.specs.declared.summary.CheckVerdict.{CheckVerdict}
use Rattle.events.specs.declared.summary.SummaryEvent.TheVariants as summaries
use Rattle.events.specs.declared.summary.Verdict.{Verdict}
use Rattle.events.specs.declared.summary.Verdict.TheVariants.{NoFault, Faults, Buffers, Units, Checks}
use Rattle.fault_summary.specs.BufferFigures.{buffer_verdict, unit_verdict}
use Rattle.fault_summary.specs.FaultRows.{RowEntries}
use Rattle.fault_summary.specs.declared.buffer_figures.BufferFigures.{BufferFigures}

-- 1. Checks: how many could be made, how many of these failed, the first failed check, and why others could not be made

abbrev pub no_check : CheckVerdict
no_check = record { checks = 0; failed = 0; first = None; unmade = None }

abbrev pub has_failed : CheckTotals → Bool
has_failed t = is_none t.no_verdict && not (t.count.faults == 0)

unfoldable pub first_failed : Option CheckTotals → CheckTotals → Option CheckTotals
first_failed (Some first) t = Some first
first_failed None t = if has_failed t then Some t else None

-- why checks can't be made: the reason of the last one
unfoldable pub last_reason : Option NoVerdict → Option NoVerdict → Option NoVerdict
last_reason before None = before
last_reason before (Some reason) = Some reason

abbrev pub one_if : Bool → ℕ
one_if b = if b then 1 else 0

abbrev pub with_check : CheckVerdict → CheckTotals → CheckVerdict
with_check v t = record {
  checks = min (v.checks + one_if (is_none t.no_verdict)) (2 ^ 64 - 1);
  failed = min (v.failed + one_if (has_failed t)) (2 ^ 64 - 1);
  first = first_failed v.first t;
  unmade = last_reason v.unmade t.no_verdict;
}

unfoldable pub with_event : CheckVerdict → Event → CheckVerdict
with_event v (events.Check e) = with_check v e
with_event v _ = v

unfoldable pub with_events : CheckVerdict → List Event → CheckVerdict
with_events v [] = v
with_events v (e ∷ es) = with_events (with_event v e) es

abbrev pub check_verdict : List Event → CheckVerdict
check_verdict rows = with_events no_check rows

-- 2. Sentences

abbrev pub sentence_events : Verdict → List Event
sentence_events verdict = events.Summary (summaries.Verdict verdict) ∷ []

abbrev pub fault_sentence : Bool → ℕ → RowEntries → List Event
fault_sentence good faults rows = sentence_events (if good then NoFault else Faults (record { faults = faults; rows = length rows }))

abbrev pub buffer_sentences : BufferFigures → RowEntries → List Event
buffer_sentences s rows =
    if s.buffers == 0 then [] else sentence_events (Buffers (buffer_verdict s rows)) ++ sentence_events (Units (unit_verdict s))

abbrev pub verdict_events : Bool → ℕ → BufferFigures → RowEntries → CheckVerdict → List Event
verdict_events good faults s rows checks = fault_sentence good faults rows ++ (buffer_sentences s rows ++ sentence_events (Checks checks))
