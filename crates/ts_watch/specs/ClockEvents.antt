-- Events of clock references (ETSI TR 101 290, 5.2.1 and 5.2.2, 2.3 and 2.4).
use Rattle.std.specs.Prelude.{ℕ, ◌+◌, ◌/◌, is_some, unwrap_or, Bool, if◌then◌else◌, List, [], ◌∷◌, ◌++◌, map, Option, Some, None}
use Rattle.tr101290.specs.declared.report.PcrError.{PcrError}
use Rattle.tr101290.specs.declared.report.PcrReport.{PcrReport}
use Rattle.tr101290.specs.Counts.{rate_of}
use Rattle.tr101290.specs.Errors.{discontinuity_error, repetition_error}
use Rattle.tr101290.specs.PidWatches.{WatchesState}
use Rattle.tr101290.specs.RateJudges.{JudgeState}
use Rattle.tr101290.specs.Watches.{PcrState}
use Rattle.tr101290.specs.declared.rate_judge.PidError.{PidError}
use Rattle.events.specs.declared.event.ClockFault.{ClockFault}
use Rattle.events.specs.declared.event.Event.{Event}
use Rattle.events.specs.declared.event.Event.TheVariants as found
use Rattle.events.specs.declared.fault_kind.FaultKind.{FaultKind}
use Rattle.events.specs.declared.fault_kind.FaultKind.TheVariants.{PcrRepetition, PcrDiscontinuity, PcrAccuracy}
use Rattle.events.specs.declared.rule_event.RuleEvent.TheVariants as rules

-- 1. The errors of a reference, with the packet of the reference

abbrev pub fault_of : ℕ → PcrError → ClockFault
fault_of pid e = record { pid = pid; packet = e.byte / 188; value = e.value; limit = e.limit }

-- the time since the reference before, in ticks of 27 MHz; the ticks from its value; how far it lies from its place, in nanoseconds
abbrev pub error_event : FaultKind → ℕ → PcrError → Event
error_event kind pid e = found.ClockFault kind (fault_of pid e)

unfoldable pub error_events : FaultKind → ℕ → Option PcrError → List Event
error_events kind pid None = []
error_events kind pid (Some e) = error_event kind pid e ∷ []

abbrev pub report_events : ℕ → PcrReport → List Event
report_events pid report =
    error_events PcrRepetition pid (repetition_error report) ++ error_events PcrDiscontinuity pid (discontinuity_error report)

unfoldable pub report_events_if : ℕ → Option PcrReport → List Event
report_events_if pid None = []
report_events_if pid (Some report) = report_events pid report

-- events of its accuracy, if that is meaningful
abbrev pub inaccuracy_events : List PidError → List Event
inaccuracy_events errors = map (λ e. error_event PcrAccuracy e.pid e.error) errors

-- an event when it is decided that the rate varies
abbrev pub variable_events : Bool → ℕ → JudgeState → List Event
variable_events varies packet judge =
    if varies then found.Rule (rules.VariableRate (record { packet = packet; pairs = judge.pairs; apart = judge.apart })) ∷ [] else []

-- the number of errors, without the error of accuracy
abbrev pub one_if : Bool → ℕ
one_if there = if there then 1 else 0

unfoldable pub errors_in : Option PcrReport → ℕ
errors_in None = 0
errors_in (Some report) = one_if (is_some (repetition_error report)) + one_if (is_some (discontinuity_error report))

-- 2. At the end, of each PID with references

-- the references of a PID: their number, how many begin a new clock by their discontinuity_indicator, the rate that all of them give in bits a second (0
-- if they give none), the greatest time between two in ticks, and the greatest inaccuracy in nanoseconds
abbrev pub clock_event : ℕ × PcrState → Event
clock_event entry = found.Clock (record {
  pid = entry.0;
  references = entry.1.counts.references;
  announced = entry.1.counts.announced;
  rate = unwrap_or (rate_of entry.1.counts) 0;
  interval = entry.1.counts.interval;
  inaccuracy = entry.1.counts.inaccuracy;
})

abbrev pub clock_events : WatchesState → List Event
clock_events watches = map clock_event watches.watches
