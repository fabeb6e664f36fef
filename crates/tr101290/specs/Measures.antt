-- What two or three references of a PID in a row give (ISO/IEC 13818-1, 2.4.2.2, 2.4.3.5 and 2.7.2).
--
-- A line has the bytes and the ticks between two references between which the clock runs on.
use Rattle.std.specs.Prelude.{ℕ, ◌+◌, ◌-◌, ◌*◌, ◌/◌, ◌%◌, min, Option, Some, None}
use Rattle.std.specs.Option.{option_map}
use Rattle.clock27.specs.Units.{byte_ticks_at_1bps}
use Rattle.arrival.specs.declared.clock.PcrSample.{PcrSample}
use Rattle.arrival.specs.declared.clock.TimedSample.{TimedSample}
use Rattle.arrival.specs.declared.clock.ClockStep.{ClockStep}
use Rattle.arrival.specs.declared.line.Line.{Line}
use Rattle.arrival.specs.Clock.{ClockState, step_after, line_in}
use Rattle.tr101290.specs.declared.watch.PcrTiming.{PcrTiming}
use Rattle.tr101290.specs.declared.watch.PcrTiming.TheVariants.{ConstantRate, References, Stamps}
use Rattle.tr101290.specs.declared.report.Inaccuracy.{Inaccuracy}
use Rattle.tr101290.specs.declared.report.PcrReport.{PcrReport}

-- a / b, rounded up
abbrev pub rounded_up : ℕ → ℕ → ℕ
rounded_up a b = a / b + min 1 (a % b)

-- 1. The rate that two references give, in bits a second, rounded down

abbrev pub rate_on : Line → ℕ
rate_on line = line.bytes * byte_ticks_at_1bps / line.ticks

-- 2. The time from one reference to the next, in ticks, rounded up: at a constant rate the time of the bytes between them,
-- whatever the clock does; otherwise the ticks between their values, if the clock runs on

abbrev pub time_of_bytes : ℕ → ℕ → ℕ
time_of_bytes rate bytes = rounded_up (bytes * byte_ticks_at_1bps) rate

unfoldable pub interval_from : PcrTiming → PcrSample → PcrSample → Option Line → Option ℕ
interval_from (ConstantRate rate) before sample line = Some (time_of_bytes rate (sample.byte - before.byte))
interval_from References before sample line = option_map (λ l. l.ticks) line
interval_from Stamps before sample line = option_map (λ l. l.ticks) line

unfoldable pub interval_after : PcrTiming → Option TimedSample → PcrSample → Option Line → Option ℕ
interval_after timing None sample line = None
interval_after timing (Some before) sample line = interval_from timing before.sample sample line

-- 3. How far the value of a reference lies from an even clock through the reference before it, in which `bytes` bytes take
-- `ticks`: earlier or later, in parts of a tick, `bytes` to a tick

abbrev pub parts_off : Line → ℕ → ℕ → ℕ
parts_off line bytes ticks = (line.ticks * bytes - line.bytes * ticks) + (line.bytes * ticks - line.ticks * bytes)

-- in nanoseconds, rounded up; 1,000 ns are 27 ticks
abbrev pub nanoseconds_off : Line → ℕ → ℕ → ℕ
nanoseconds_off line bytes ticks = rounded_up (parts_off line bytes ticks * 1000) (27 * bytes)

-- the inaccuracy of a reference at a constant rate, if the clock runs on along its line
abbrev pub off_rate : ℕ → Line → Inaccuracy
off_rate rate line = record { byte = line.byte + line.bytes; nanoseconds = nanoseconds_off line rate byte_ticks_at_1bps }

-- the inaccuracy of the reference between two lines, from the line through the references before and after it
abbrev pub off_neighbours : Line → Line → Inaccuracy
off_neighbours before line = record {
  byte = before.byte + before.bytes;
  nanoseconds = nanoseconds_off before (before.bytes + line.bytes) (before.ticks + line.ticks);
}

-- none if packets arrive by stamps: between references they come at no even rate (ETSI TR 101 290, 5.2.2: at a constant bit rate only)
unfoldable pub inaccuracy_by : PcrTiming → Option Line → Option Line → Option Inaccuracy
inaccuracy_by timing before None = None
inaccuracy_by (ConstantRate rate) before (Some line) = Some (off_rate rate line)
inaccuracy_by References None (Some line) = None
inaccuracy_by References (Some before) (Some line) = Some (off_neighbours before line)
inaccuracy_by Stamps before (Some line) = None

-- 4. The report on a reference, by the state of the clock that the references before it leave

abbrev pub report_by : PcrTiming → ClockState → PcrSample → ClockStep → PcrReport
report_by timing clock sample step = record {
  byte = sample.byte;
  step = step;
  rate = option_map rate_on (line_in step);
  interval = interval_after timing clock.last sample (line_in step);
  inaccuracy = inaccuracy_by timing clock.line (line_in step);
}

abbrev pub report_after : PcrTiming → ClockState → PcrSample → PcrReport
report_after timing clock sample = report_by timing clock sample (step_after clock.last sample)
