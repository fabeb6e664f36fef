-- The clock of a program, by its references: where it continues, on which line, and where it restarts.
--
-- Lists of references begin with the last reference.
use Rattle.std.specs.Prelude.{ℕ, ◌+◌, ◌-◌, ◌*◌, ◌%◌, ◌^◌, ◌<◌, ◌≤◌, nat_le, nat_lt, ◌&&◌, not, Bool, List, [], ◌∷◌, Option, Some, None, if◌then◌else◌}
use Rattle.arrival.specs.declared.clock.PcrSample.{PcrSample}
use Rattle.arrival.specs.declared.clock.TimedSample.{TimedSample}
use Rattle.arrival.specs.declared.clock.ClockStep.{ClockStep}
use Rattle.arrival.specs.declared.clock.ClockStep.TheVariants.{First, GoesOn, Announced, Jump}
use Rattle.arrival.specs.declared.line.Line.{Line}

-- the ticks of 27 MHz after which a clock reference wraps: its base has 33 bits and counts every 300th tick (ISO/IEC 13818-1, 2.4.2.2)
abbrev pub pcr_period : ℕ
pcr_period = 300 * 2 ^ 33

-- the greatest time between two references of a program, in ticks: 100 ms (ISO/IEC 13818-1, 2.7.2)
abbrev pub greatest_interval : ℕ
greatest_interval = 2700000

-- references more than one second apart, ten times the greatest interval, lie on no line
abbrev pub longest_interval : ℕ
longest_interval = 27000000

-- the fields' widths: a value is below 300 * 2^33 + 2^9; and how long a stream is
pub record IsInRange (sample : PcrSample) : Type 0 where
  pub ticks : sample.ticks < 2 ^ 42
  pub byte : sample.byte ≤ 2 ^ 40

-- bounds of the moment of a reference at that byte: at least one period, and at most an interval for each packet before it
pub record IsMoment (byte moment : ℕ) : Type 0 where
  pub begun : pcr_period ≤ moment
  pub soon : moment ≤ 2 ^ 44 + 143618 * byte

-- a line between two references: whole packets, in no longer than an interval
pub record IsClockLine (line : Line) : Type 0 where
  pub begun : pcr_period ≤ line.moment
  pub soon : line.moment ≤ 2 ^ 44 + 143618 * line.byte
  pub whole : 188 ≤ line.bytes
  pub within : line.byte + line.bytes ≤ 2 ^ 40
  pub slow : 0 < line.ticks
  pub short : line.ticks ≤ longest_interval

-- the ticks from one value to the next; values wrap
abbrev pub elapsed : ℕ → ℕ → ℕ
elapsed before value = (value + 2 * pcr_period - before) % pcr_period

-- the clock continues from one reference to the next: there is no discontinuity_indicator, the next reference is in a later packet, and the clock has
-- advanced by at most an interval
abbrev pub goes_on : PcrSample → PcrSample → Bool
goes_on before sample = not sample.discontinuity && nat_le (before.byte + 188) sample.byte
    && nat_lt 0 (elapsed before.ticks sample.ticks) && nat_le (elapsed before.ticks sample.ticks) longest_interval

-- the line from one reference to the next
abbrev pub line_from : TimedSample → PcrSample → Line
line_from before sample = record {
  byte = before.sample.byte;
  moment = before.moment;
  bytes = sample.byte - before.sample.byte;
  ticks = elapsed before.sample.ticks sample.ticks;
}

-- how the clock moves from the reference before to this reference
unfoldable pub step_from : TimedSample → PcrSample → ClockStep
step_from before sample =
    if goes_on before.sample sample then GoesOn (line_from before sample)
    else if sample.discontinuity then Announced
    else Jump (elapsed before.sample.ticks sample.ticks)

-- the moment of a reference: if the clock continues, the moment at the end of the line, otherwise one period plus its value. So a moment and its reference
-- differ by whole periods
unfoldable pub moment_by : ClockStep → PcrSample → ℕ
moment_by First sample = pcr_period + sample.ticks
moment_by (GoesOn line) sample = line.moment + line.ticks
moment_by Announced sample = pcr_period + sample.ticks
moment_by (Jump ticks) sample = pcr_period + sample.ticks

-- the property P of the line on which the clock continues, if it does
unfoldable pub IfGoesOn : ClockStep → (Line → Type 0) → Type 0
IfGoesOn First P = Unit {0}
IfGoesOn (GoesOn line) P = P line
IfGoesOn Announced P = Unit {0}
IfGoesOn (Jump ticks) P = Unit {0}

-- how the clock moves from the last reference before, if any, to this reference
unfoldable pub step_after : Option TimedSample → PcrSample → ClockStep
step_after None sample = First
step_after (Some before) sample = step_from before sample

-- a reference with its moment, after the reference `last`
abbrev pub timed_after : Option TimedSample → PcrSample → TimedSample
timed_after last sample = record { sample = sample; moment = moment_by (step_after last sample) sample }

-- the last of these references, with its moment
unfoldable pub last_of : List PcrSample → Option TimedSample
last_of [] = None
last_of (sample ∷ earlier) = Some (timed_after (last_of earlier) sample)

-- the line on which the clock continues
unfoldable pub line_in : ClockStep → Option Line
line_in First = None
line_in (GoesOn line) = Some line
line_in Announced = None
line_in (Jump ticks) = None

-- the kept state of the references: the last reference, and the line that ends there
pub record ClockState : Type 0 where
  pub last : Option TimedSample
  pub line : Option Line

abbrev pub state_after : ClockState → PcrSample → ClockState
state_after state sample = record { last = Some (timed_after state.last sample); line = line_in (step_after state.last sample) }

unfoldable pub state_of : List PcrSample → ClockState
state_of [] = record { last = None; line = None }
state_of (sample ∷ earlier) = state_after (state_of earlier) sample
