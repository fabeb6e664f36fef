-- The clock that times the arrival of a stream: the references of a program, one after another, on lines that meet.
--
-- If the clock continues from one reference to the next, both lie on a line. If it restarts at a reference, the line before continues up to this reference,
-- and the next line begins there: so no byte arrives before an earlier byte.
use Rattle.std.specs.Prelude.{ℕ, ◌+◌, ◌-◌, ◌*◌, ◌/◌, ◌^◌, min, max, Option, Some, None}
use Rattle.std.specs.Option.{option_or}
use Rattle.arrival.specs.Clock.{ClockState, pcr_period, state_after, step_after}
use Rattle.arrival.specs.Lines.{parts_at}
use Rattle.arrival.specs.declared.clock.PcrSample.{PcrSample}
use Rattle.arrival.specs.declared.clock.ClockStep.{ClockStep}
use Rattle.arrival.specs.declared.clock.ClockStep.TheVariants.{First, GoesOn, Announced, Jump}
use Rattle.arrival.specs.declared.line.Line.{Line}

-- the program's clock, the moment of its last reference, and the last line
pub record ArrivalClockState : Type 0 where
  pub clock : ClockState
  pub moment : ℕ
  pub line : Option Line

abbrev pub no_clock : ClockState
no_clock = record { last = None; line = None }

abbrev pub no_reference : ArrivalClockState
no_reference = record { clock = no_clock; moment = pcr_period; line = None }

-- the line on which the clock continues from a reference at that moment
unfoldable pub line_from : ℕ → ClockStep → Option Line
line_from moment First = None
line_from moment (GoesOn line) = Some (record { byte = line.byte; moment = moment; bytes = line.bytes; ticks = line.ticks })
line_from moment Announced = None
line_from moment (Jump ticks) = None

-- the first whole tick that is not before byte i on a line
abbrev pub tick_after : Line → ℕ → ℕ
tick_after line i = (parts_at line i + (line.bytes - 1)) / max 1 line.bytes

-- the moment of a reference at `byte` where the clock restarts: the time of this byte on the line before, in whole ticks, but at most about a second for each
-- packet before it; one period if there is no line
unfoldable pub moment_anew : Option Line → ℕ → ℕ
moment_anew None byte = pcr_period
moment_anew (Some line) byte = max pcr_period (min (tick_after line byte) (2 ^ 44 + 143618 * byte))

unfoldable pub moment_by : ℕ → ClockStep → Option Line → ℕ → ℕ
moment_by moment First before byte = moment_anew before byte
moment_by moment (GoesOn line) before byte = moment + line.ticks
moment_by moment Announced before byte = moment_anew before byte
moment_by moment (Jump ticks) before byte = moment_anew before byte

abbrev pub step_to : ArrivalClockState → PcrSample → ClockStep
step_to state sample = step_after state.clock.last sample

-- the line of the bytes before a reference: the line on which the clock continues, or otherwise the line before
abbrev pub line_to : ArrivalClockState → PcrSample → Option Line
line_to state sample = option_or (line_from state.moment (step_to state sample)) state.line

abbrev pub after : ArrivalClockState → PcrSample → ArrivalClockState
after state sample = record {
  clock = state_after state.clock sample;
  moment = moment_by state.moment (step_to state sample) state.line sample.byte;
  line = line_to state sample;
}

-- no reference arrived for too long: the clock restarts with the next reference, and its line continues
abbrev pub without_last : ArrivalClockState → ArrivalClockState
without_last state = record { clock = no_clock; moment = state.moment; line = state.line }
