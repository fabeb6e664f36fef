-- Moments and durations that tables say, from their binary coded decimals (EN 300 468, 5.2.4, 5.2.5 and annex C).
use Rattle.std.specs.Prelude.{ℕ, ◌+◌, ◌-◌, ◌*◌, ◌/◌, ◌%◌, ◌&&◌, nat_le, nat_lt, if◌then◌else◌, List, [], ◌∷◌, slice_index, Option, Some, None, option_and_then}
use Rattle.std.specs.Prelude.{option_map}

-- two decimal digits in a byte
unfoldable pub decimal_in : ℕ → Option ℕ
decimal_in byte = if nat_lt (byte / 16) 10 && nat_lt (byte % 16) 10 then Some (byte / 16 * 10 + byte % 16) else None

-- a number below 60: minutes, seconds
unfoldable pub below_sixty : ℕ → Option ℕ
below_sixty n = if nat_lt n 60 then Some n else None

unfoldable pub sixtieths_in : ℕ → Option ℕ
sixtieths_in byte = option_and_then below_sixty (decimal_in byte)

-- a number of seconds, hhmmss
unfoldable pub seconds_in : List ℕ → Option ℕ
seconds_in digits =
    option_and_then (λ hours. option_and_then (λ minutes. option_map (λ seconds. hours * 3600 + minutes * 60 + seconds)
    (sixtieths_in (slice_index digits 2))) (sixtieths_in (slice_index digits 1))) (decimal_in (slice_index digits 0))

-- a moment in seconds since 1 January 1970, day 40,587, from then to the last second of 2037, day 65,423
unfoldable pub moment_on : ℕ → ℕ → Option ℕ
moment_on day seconds = if (nat_le 40587 day && nat_le day 65423) && nat_lt seconds 86400 then Some ((day - 40587) * 86400 + seconds) else None

-- the Modified Julian Date in 16 bits, then hhmmss
unfoldable pub moment_in : List ℕ → Option ℕ
moment_in time =
    option_and_then (moment_on (slice_index time 0 * 256 + slice_index time 1)) (seconds_in (slice_index time 2 ∷ slice_index time 3 ∷ slice_index time 4 ∷ []))
