-- Reports on references, counted.
use Rattle.std.specs.Prelude.{ℕ, ◌+◌, ◌-◌, ◌*◌, ◌/◌, ◌^◌, ◌==◌, min, max, is_some, unwrap_or, Bool, true, false, if◌then◌else◌, Option, Some, None}
use Rattle.clock27.specs.Units.{byte_ticks_at_1bps}
use Rattle.arrival.specs.declared.clock.ClockStep.{ClockStep}
use Rattle.arrival.specs.declared.clock.ClockStep.TheVariants.{First, GoesOn, Announced, Jump}
use Rattle.tr101290.specs.declared.counts.PcrCounts.{PcrCounts}
use Rattle.tr101290.specs.declared.report.Inaccuracy.{Inaccuracy}
use Rattle.tr101290.specs.declared.report.PcrReport.{PcrReport}
use Rattle.tr101290.specs.Errors.{repetition_error, discontinuity_error, accuracy_error}

-- numbers stop at 2^64 - 1
abbrev pub up_to : ℕ → ℕ
up_to n = min n (2 ^ 64 - 1)

abbrev pub more_if : Bool → ℕ → ℕ
more_if more count = if more then up_to (count + 1) else count

unfoldable pub is_announced : ClockStep → Bool
is_announced First = false
is_announced (GoesOn line) = false
is_announced Announced = true
is_announced (Jump ticks) = false

unfoldable pub nanoseconds_in : Option Inaccuracy → ℕ
nanoseconds_in None = 0
nanoseconds_in (Some off) = off.nanoseconds

-- the bytes and the ticks of a step along which the clock runs on
unfoldable pub line_bytes : ClockStep → ℕ
line_bytes First = 0
line_bytes (GoesOn line) = line.bytes
line_bytes Announced = 0
line_bytes (Jump ticks) = 0

unfoldable pub line_ticks : ClockStep → ℕ
line_ticks First = 0
line_ticks (GoesOn line) = line.ticks
line_ticks Announced = 0
line_ticks (Jump ticks) = 0

abbrev pub none_counted : PcrCounts
none_counted = record {
  references = 0;
  announced = 0;
  repetition_errors = 0;
  discontinuity_errors = 0;
  accuracy_errors = 0;
  interval = 0;
  inaccuracy = 0;
  bytes = 0;
  ticks = 0;
}

abbrev pub counted : PcrCounts → PcrReport → PcrCounts
counted counts report = record {
  references = up_to (counts.references + 1);
  announced = more_if (is_announced report.step) counts.announced;
  repetition_errors = more_if (is_some (repetition_error report)) counts.repetition_errors;
  discontinuity_errors = more_if (is_some (discontinuity_error report)) counts.discontinuity_errors;
  accuracy_errors = more_if (is_some (accuracy_error report)) counts.accuracy_errors;
  interval = max counts.interval (unwrap_or report.interval 0);
  inaccuracy = max counts.inaccuracy (nanoseconds_in report.inaccuracy);
  bytes = up_to (counts.bytes + line_bytes report.step);
  ticks = up_to (counts.ticks + line_ticks report.step);
}

-- the mean rate over all steps along which the clock runs on, in bits a second, rounded down
abbrev pub rate_of : PcrCounts → Option ℕ
rate_of counts = if counts.ticks == 0 then None else Some (counts.bytes * byte_ticks_at_1bps / counts.ticks)
