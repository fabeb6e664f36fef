-- What the counts of a window are, and the drift of a program clock, by the references alone.
use Rattle.std.specs.Prelude.{◌≡◌, ℕ, ◌+◌, ◌-◌, ◌^◌, ◌==◌, ◌≤◌, ◌&&◌, max, min, unwrap_or, Bool, if◌then◌else◌, List, [], ◌∷◌, ◌++◌, map, Option, Some, None}
use Rattle.tr101290.specs.Counts.{counted, nanoseconds_in, none_counted}
use Rattle.tr101290.specs.declared.counts.PcrCounts.{PcrCounts}
use Rattle.tr101290.specs.declared.report.PcrReport.{PcrReport}
use Rattle.arrival.specs.declared.clock.ClockStep.{ClockStep}
use Rattle.arrival.specs.declared.clock.ClockStep.TheVariants.{GoesOn}
use Rattle.arrival.specs.declared.line.Line.{Line}
use Rattle.packet_times.specs.ClockDrifts.{drift_after}
use Rattle.packet_times.specs.declared.drift.ClockDrift.{ClockDrift}
use Rattle.packet_times.specs.ClockWindows.{ClocksState, counts_of, drift_of, no_reference, with_report, entered}

-- a reference: its window, its PID, the moment at which it arrives, and the report on it
pub record Placed : Type 0 where
  pub window : ℕ
  pub pid : ℕ
  pub moment : Option ℕ
  pub report : PcrReport

-- after these references, the last one first
unfoldable pub state_of : List Placed → ClocksState
state_of [] = no_reference
state_of (r ∷ earlier) = with_report (entered (state_of earlier) r.window) r.pid r.moment r.report

-- windows in order: none is before the window of a reference before, the last reference first
unfoldable pub InOrder : ℕ → List Placed → Type 0
InOrder last [] = Unit {0}
InOrder last (r ∷ earlier) = (r.window ≤ last) × InOrder r.window earlier

-- the reports on the references of a PID in a window
abbrev pub is_in : ℕ → ℕ → Placed → Bool
is_in window pid r = (r.window == window) && (r.pid == pid)

unfoldable pub reports_in : ℕ → ℕ → List Placed → List PcrReport
reports_in window pid [] = []
reports_in window pid (r ∷ earlier) = if is_in window pid r then r.report ∷ reports_in window pid earlier else reports_in window pid earlier

unfoldable pub all_counted : List PcrReport → PcrCounts
all_counted [] = none_counted
all_counted (report ∷ earlier) = counted (all_counted earlier) report

-- the counts of a PID in the window of the last reference are the counts of all its references there
abbrev pub ClockCountLaw : Type 0
ClockCountLaw = (last : Placed) (earlier : List Placed) (pid : ℕ) → InOrder last.window (last ∷ earlier) →
    counts_of pid (state_of (last ∷ earlier)).counts ≡ all_counted (reports_in last.window pid (last ∷ earlier))

-- the interval and the inaccuracy of a window are the greatest among its references
unfoldable pub greatest : List ℕ → ℕ
greatest [] = 0
greatest (n ∷ earlier) = max (greatest earlier) n

abbrev pub interval_of : PcrReport → ℕ
interval_of report = unwrap_or report.interval 0

abbrev pub inaccuracy_of : PcrReport → ℕ
inaccuracy_of report = nanoseconds_in report.inaccuracy

abbrev pub GreatestIntervalLaw : Type 0
GreatestIntervalLaw = (reports : List PcrReport) → (all_counted reports).interval ≡ greatest (map interval_of reports)

abbrev pub GreatestInaccuracyLaw : Type 0
GreatestInaccuracyLaw = (reports : List PcrReport) → (all_counted reports).inaccuracy ≡ greatest (map inaccuracy_of reports)

-- the references of a PID, of whatever window
unfoldable pub references_of : ℕ → List Placed → List Placed
references_of pid [] = []
references_of pid (r ∷ earlier) = if r.pid == pid then r ∷ references_of pid earlier else references_of pid earlier

unfoldable pub drift_by : List Placed → Option ClockDrift
drift_by [] = None
drift_by (r ∷ earlier) = drift_after (drift_by earlier) r.report.step r.moment

-- the drift of a PID is the drift by its own references
abbrev pub DriftLaw : Type 0
DriftLaw = (references : List Placed) (pid : ℕ) → drift_of pid (state_of references).drifts ≡ drift_by (references_of pid references)

-- a reference that continues a clock on a line, and the moment at which it arrives
pub record Continued : Type 0 where
  pub line : Line
  pub moment : ℕ

-- the drift at the last of these references, in reverse order, after a reference that arrives at a moment and does not continue the clock
unfoldable pub drift_along : ℕ → ClockStep → List Continued → Option ClockDrift
drift_along begin step [] = drift_after None step (Some begin)
drift_along begin step (r ∷ earlier) = drift_after (drift_along begin step earlier) (GoesOn r.line) (Some r.moment)

unfoldable pub all_ticks : List Continued → ℕ
all_ticks [] = 0
all_ticks (r ∷ earlier) = min (all_ticks earlier + r.line.ticks) (2 ^ 64 - 1)

unfoldable pub last_moment : ℕ → List Continued → ℕ
last_moment begin [] = begin
last_moment begin (r ∷ earlier) = r.moment

-- the drift follows from the ticks of all lines and the moments of the first reference and of the last
abbrev pub TotalDriftLaw : Type 0
TotalDriftLaw = (begin : ℕ) (step : ClockStep) (references : List Continued) →
    drift_along begin step references ≡ Some (record { begin = begin; ticks = all_ticks references; arrived = last_moment begin references - begin })
