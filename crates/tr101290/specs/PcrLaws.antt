-- Laws of the measured values, over the definitions alone.
use Rattle.std.specs.Prelude.{◌≡◌, ◌↔◌, ℕ, ◌+◌, ◌-◌, ◌*◌, ◌/◌, ◌<◌, ◌≤◌, List, [], ◌∷◌, ◌++◌}
use Rattle.clock27.specs.Units.{byte_ticks_at_1bps}
use Rattle.arrival.specs.declared.clock.PcrSample.{PcrSample}
use Rattle.arrival.specs.declared.line.Line.{Line}
use Rattle.arrival.specs.Clock.{state_of}
use Rattle.arrival.specs.Lines.{parts_at}
use Rattle.tr101290.specs.declared.watch.PcrTiming.{PcrTiming}
use Rattle.tr101290.specs.Measures.{rounded_up, time_of_bytes, parts_off, nanoseconds_off}
use Rattle.tr101290.specs.RateJudges.{JudgeState, after_all, all_errors, errors_all, if_constant, last_errors, no_rate}
use Rattle.tr101290.specs.Watches.{PcrState, no_reference, taken}
use Rattle.tr101290.specs.declared.report.PcrReport.{PcrReport}

-- a value that is rounded up is beyond a whole limit exactly where the exact one is
abbrev pub RoundedUpLaw : Type 0
RoundedUpLaw = (limit a b : ℕ) → 0 < b → (limit < rounded_up a b) ↔ (limit * b < a)

-- bytes take more than 100 ms exactly if they do so in whole numbers
abbrev pub IntervalLaw : Type 0
IntervalLaw = (rate bytes : ℕ) → 0 < rate → (2700000 < time_of_bytes rate bytes) ↔ (2700000 * rate < bytes * byte_ticks_at_1bps)

-- a reference is inaccurate by more than 500 ns exactly if it is inaccurate by more than 27 half ticks
abbrev pub InaccuracyLaw : Type 0
InaccuracyLaw = (line : Line) (bytes ticks : ℕ) → 0 < bytes → (500 < nanoseconds_off line bytes ticks) ↔ (27 * bytes < 2 * parts_off line bytes ticks)

-- the parts lie between its moment and its arrival on the line of the even clock through the reference before it
abbrev pub PlaceLaw : Type 0
PlaceLaw = (line : Line) (bytes ticks : ℕ) →
    let even : Line = record { byte = line.byte; moment = line.moment; bytes = bytes; ticks = ticks } in
    let value : ℕ = (line.moment + line.ticks) * bytes in
    let place : ℕ = parts_at even (line.byte + line.bytes) in
    parts_off line bytes ticks ≡ (value - place) + (place - value)

-- a clock of that rate whose values are rounded down to whole ticks is accurate: it is off by less than a tick, 38 ns
abbrev pub WholeTicksLaw : Type 0
WholeTicksLaw = (rate from line_bytes base : ℕ) (line : Line) → 0 < rate → line.bytes ≡ line_bytes →
    line.ticks + (byte_ticks_at_1bps * from + base) / rate ≡ (byte_ticks_at_1bps * (from + line_bytes) + base) / rate →
    nanoseconds_off line rate byte_ticks_at_1bps ≤ 38

-- after these references, the last one first
unfoldable pub watch_of : PcrTiming → List PcrSample → PcrState
watch_of timing [] = no_reference timing
watch_of timing (sample ∷ earlier) = taken (watch_of timing earlier) sample

-- the clock in the state is the clock that the references give, so each report takes all earlier references into account
abbrev pub ClockLaw : Type 0
ClockLaw = (timing : PcrTiming) (samples : List PcrSample) → ((watch_of timing samples).clock ≡ state_of samples) × ((watch_of timing samples).timing ≡ timing)

-- the accuracy errors that are given, at the end too: all held errors and all later errors, or none if the rate varies
abbrev pub JudgedFrom : JudgeState → List (ℕ × PcrReport) → Type 0
JudgedFrom s rs = errors_all s rs ++ last_errors (after_all s rs) ≡ if_constant (after_all s rs) (s.held ++ all_errors rs)

-- for a whole stream either all accuracy errors are given or none: no peak is lost, and if the rate varies no error is given
abbrev pub JudgeLaw : Type 0
JudgeLaw = (rs : List (ℕ × PcrReport)) → JudgedFrom no_rate rs
