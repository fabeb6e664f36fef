-- Clock references by window (ETSI TR 101 290, 5.2.2, 2.3a, 2.3b and 2.4): the counts of one window are kept, the last one, and the drift of
-- each program clock.
use Rattle.std.specs.Prelude.{ℕ, ◌==◌, nat_eq, if◌then◌else◌, List, [], map, Option, Some, None}
use Rattle.std.specs.Map.{lookup}
use Rattle.indexmap.specs.IndexMap.{insert_entry}
use Rattle.events.specs.declared.event.Event.{Event}
use Rattle.events.specs.declared.event.Event.TheVariants as found
use Rattle.events.specs.declared.rule_event.RuleEvent.TheVariants as rules
use Rattle.tr101290.specs.Counts.{counted, none_counted}
use Rattle.tr101290.specs.declared.counts.PcrCounts.{PcrCounts}
use Rattle.tr101290.specs.declared.report.PcrReport.{PcrReport}
use Rattle.packet_times.specs.ClockDrifts.{ahead_of, behind_of, drift_after}
use Rattle.packet_times.specs.declared.drift.ClockDrift.{ClockDrift}

-- a window by its number, the counts of the references of each PID in it, in the order of their first references, and the drift of each PID's
-- clock
pub record ClocksState : Type 0 where
  pub number : ℕ
  pub counts : List (ℕ × PcrCounts)
  pub drifts : List (ℕ × Option ClockDrift)

abbrev pub no_reference : ClocksState
no_reference = record { number = 0; counts = []; drifts = [] }

unfoldable pub counts_or_none : Option PcrCounts → PcrCounts
counts_or_none None = none_counted
counts_or_none (Some counts) = counts

abbrev pub counts_of : ℕ → List (ℕ × PcrCounts) → PcrCounts
counts_of pid entries = counts_or_none (lookup (nat_eq pid) entries)

unfoldable pub drift_or_none : Option (Option ClockDrift) → Option ClockDrift
drift_or_none None = None
drift_or_none (Some drift) = drift

abbrev pub drift_of : ℕ → List (ℕ × Option ClockDrift) → Option ClockDrift
drift_of pid entries = drift_or_none (lookup (nat_eq pid) entries)

-- 1. A reference of a PID in a window, by the report on it and the moment at which it arrives

-- the counts of a window so far: another one than the last has none
unfoldable pub counts_in : ClocksState → ℕ → List (ℕ × PcrCounts)
counts_in s window = if s.number == window then s.counts else []

abbrev pub entered : ClocksState → ℕ → ClocksState
entered s window = record { number = window; counts = counts_in s window; drifts = s.drifts }

abbrev pub with_report : ClocksState → ℕ → Option ℕ → PcrReport → ClocksState
with_report s pid moment report = record {
  number = s.number;
  counts = insert_entry nat_eq s.counts pid (counted (counts_of pid s.counts) report);
  drifts = insert_entry nat_eq s.drifts pid (drift_after (drift_of pid s.drifts) report.step moment);
}

unfoldable pub taken : ClocksState → ℕ → ℕ → Option ℕ → Option PcrReport → ClocksState
taken s window pid moment None = s
taken s window pid moment (Some report) = with_report (entered s window) pid moment report

-- 2. The end of a window

-- the references of a PID, their greatest interval in ticks, their greatest inaccuracy in nanoseconds, and the drift at the last of them in ticks
abbrev pub figures : ℕ → ℕ → PcrCounts → Option ClockDrift → Event
figures number pid counts drift = found.Rule (rules.ClockWindow (record {
  number = number;
  pid = pid;
  references = counts.references;
  interval = counts.interval;
  inaccuracy = counts.inaccuracy;
  ahead = ahead_of drift;
  behind = behind_of drift;
}))

abbrev pub window_event : ℕ → List (ℕ × Option ClockDrift) → ℕ × PcrCounts → Event
window_event number drifts entry = figures number entry.0 entry.1 (drift_of entry.0 drifts)

abbrev pub all_events : ClocksState → List Event
all_events s = map (window_event s.number s.drifts) s.counts

-- the events of each PID with a reference in this window
abbrev pub window_events : ClocksState → ℕ → List Event
window_events s window = if s.number == window then all_events s else []
