-- Which measured values are errors (ETSI TR 101 290, 5.2.1 and 5.2.2).
use Rattle.std.specs.Prelude.{ℕ, nat_lt, if◌then◌else◌, Option, Some, None}
use Rattle.arrival.specs.Clock.{greatest_interval}
use Rattle.arrival.specs.declared.clock.ClockStep.{ClockStep}
use Rattle.arrival.specs.declared.clock.ClockStep.TheVariants.{First, GoesOn, Announced, Jump}
use Rattle.tr101290.specs.declared.report.Inaccuracy.{Inaccuracy}
use Rattle.tr101290.specs.declared.report.PcrError.{PcrError}
use Rattle.tr101290.specs.declared.report.PcrReport.{PcrReport}

-- the greatest inaccuracy of a reference, in nanoseconds (ISO/IEC 13818-1, 2.4.2.2)
abbrev pub greatest_inaccuracy : ℕ
greatest_inaccuracy = 500

-- a value at a byte that is beyond a limit
abbrev pub beyond : ℕ → ℕ → ℕ → Option PcrError
beyond limit byte value = if nat_lt limit value then Some (record { byte = byte; value = value; limit = limit }) else None

unfoldable pub beyond_if : ℕ → ℕ → Option ℕ → Option PcrError
beyond_if limit byte None = None
beyond_if limit byte (Some value) = beyond limit byte value

-- 2.3a, PCR_repetition_error: more than 100 ms after the reference before it
abbrev pub repetition_error : PcrReport → Option PcrError
repetition_error report = beyond_if greatest_interval report.byte report.interval

-- the ticks from the value of the reference before it to its own value, if it has no discontinuity_indicator; values wrap round, so a
-- value that falls has advanced by nearly a whole period
unfoldable pub difference_in : ClockStep → Option ℕ
difference_in First = None
difference_in (GoesOn line) = Some line.ticks
difference_in Announced = None
difference_in (Jump ticks) = Some ticks

-- 2.3b, PCR_discontinuity_indicator_error: that is not within 0 to 100 ms
abbrev pub discontinuity_error : PcrReport → Option PcrError
discontinuity_error report = beyond_if greatest_interval report.byte (difference_in report.step)

-- 2.4, PCR_accuracy_error: a reference is inaccurate by more than 500 ns
unfoldable pub off_beyond : Option Inaccuracy → Option PcrError
off_beyond None = None
off_beyond (Some off) = beyond greatest_inaccuracy off.byte off.nanoseconds

abbrev pub accuracy_error : PcrReport → Option PcrError
accuracy_error report = off_beyond report.inaccuracy
