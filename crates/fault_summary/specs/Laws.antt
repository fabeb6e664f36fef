-- Counts of the faults of a stream: lists have the last event, or the last fault, first.
use Rattle.std.specs.Prelude.{◌≡◌, ◌^◌, ◌-◌, ℕ, ◌==◌, min, Bool, true, false, List, [], ◌∷◌, ◌++◌, filter, filter_map, length, map, Option, Some, None}
use Rattle.events.specs.declared.check_counts.CheckCount.{CheckCount}
use Rattle.events.specs.declared.check_counts.FaultCount.{FaultCount}
use Rattle.events.specs.declared.check_counts.TheConstants.{NO_FAULT}
use Rattle.events.specs.declared.event.Event.{Event}
use Rattle.events.specs.declared.fault.Fault.{Fault}
use Rattle.events.specs.declared.summary.FaultTotals.{FaultTotals}
use Rattle.events.specs.CheckCounts.{fails, no_faults}
use Rattle.events.specs.CheckCounts as counts
use Rattle.fault_summary.specs.FaultRows.{fault_key, row_at, totals_after}
use Rattle.fault_summary.specs.Summaries.{SummaryState, nothing, with_event}
use Rattle.fault_summary.specs.SyncRuns.{is_loss, loss_of, no_run}
use Rattle.fault_summary.specs.SyncRuns as runs
use Rattle.fault_summary.specs.declared.sync_runs.SyncRun.{SyncRun}

-- 1. A summary after events

-- an event, and the fault that it says there is
abbrev pub Seen : Type 0
Seen = Event × Option Fault

-- of a stream whose rate varies, or is not known to vary
unfoldable pub summary_after : Bool → List Seen → SummaryState
summary_after varies [] = nothing varies
summary_after varies (seen ∷ earlier) = with_event (summary_after varies earlier) seen.0 seen.1

abbrev pub fault_in : Seen → Option Fault
fault_in seen = seen.1

abbrev pub faults_in : List Seen → List Fault
faults_in seen = filter_map fault_in seen

-- the packets in a row, at the end of these faults, that do not begin with 0x47
unfoldable pub run_after : List Fault → SyncRun
run_after [] = no_run
run_after (fault ∷ earlier) = runs.with_fault (run_after earlier) fault

unfoldable pub loss_if : Bool → Fault → List Fault → List Fault
loss_if false fault earlier = earlier
loss_if true fault earlier = loss_of fault ∷ earlier

-- with a loss of synchronization before each fault that is the second such packet in a row
unfoldable pub with_losses : List Fault → List Fault
with_losses [] = []
with_losses (fault ∷ earlier) = fault ∷ loss_if (is_loss (run_after earlier) fault) fault (with_losses earlier)

-- 2. Checks

-- these faults, counted one after another
unfoldable pub count_of : List Fault → FaultCount
count_of [] = NO_FAULT
count_of (fault ∷ earlier) = counts.with_fault (count_of earlier) fault

-- a count has the number of the faults, and the place of the first and of the last
pub record CountsFaults : Type 0 where
  pub number : (faults : List Fault) → (count_of faults).faults ≡ min (length faults) (2 ^ 64 - 1)
  pub first : (later : List Fault) (fault : Fault) → (count_of (later ++ fault ∷ [])).first ≡ fault.packet
  pub from : (later : List Fault) (fault : Fault) → (count_of (later ++ fault ∷ [])).from ≡ fault.from
  pub last : (fault : Fault) (earlier : List Fault) → (count_of (fault ∷ earlier)).last ≡ fault.packet
  pub to : (fault : Fault) (earlier : List Fault) → (count_of (fault ∷ earlier)).to ≡ fault.to

-- the row of a check, by the faults that fail it alone
abbrev pub row_of : List Fault → CheckCount → CheckCount
row_of faults row = record { check = row.check; count = count_of (filter (fails row.check) faults) }

abbrev pub CheckLaw : Type 0
CheckLaw = (varies : Bool) (seen : List Seen) →
    (summary_after varies seen).counts.rows ≡ map (row_of (with_losses (faults_in seen))) no_faults.rows

-- 3. Kinds and sources

unfoldable pub totals_in : List Fault → Option FaultTotals
totals_in [] = None
totals_in (fault ∷ earlier) = Some (totals_after (totals_in earlier) fault)

-- the faults of a key
abbrev pub faults_of : ℕ → List Fault → List Fault
faults_of key faults = filter (λ f. fault_key f == key) faults

abbrev pub RowLaw : Type 0
RowLaw = (varies : Bool) (key : ℕ) (seen : List Seen) → row_at (summary_after varies seen).rows key ≡ totals_in (faults_of key (faults_in seen))
