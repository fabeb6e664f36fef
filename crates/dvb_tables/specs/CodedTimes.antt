-- Moments and durations in binary coded decimals (EN 300 468, 5.2.4, 5.2.5 and annex C).
use Rattle.std.specs.Prelude.{ℕ, ◌+◌, ◌*◌, ◌/◌, ◌%◌, List, [], ◌∷◌}

-- the Modified Julian Date of a moment, in seconds since 1 January 1970, in the 16 bits of UTC_time
abbrev pub julian_day_of : ℕ → ℕ
julian_day_of moment = (moment / 86400 + 40587) % 65536

-- two decimal digits in one byte, the tens in its upper half
abbrev pub coded_decimal : ℕ → ℕ
coded_decimal n = n / 10 * 16 + n % 10

-- hhmmss of a number of seconds, six decimal digits
abbrev pub clock_bytes : ℕ → List ℕ
clock_bytes seconds = coded_decimal (seconds / 3600) ∷ coded_decimal (seconds / 60 % 60) ∷ coded_decimal (seconds % 60) ∷ []

-- UTC_time of a moment: the Modified Julian Date, then hhmmss
abbrev pub utc_time_bytes : ℕ → List ℕ
utc_time_bytes moment = julian_day_of moment / 256 ∷ julian_day_of moment % 256 ∷ clock_bytes (moment % 86400)
