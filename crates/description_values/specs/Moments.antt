-- Times as a description writes them, and the moments that they name: seconds since 1970-01-01T00:00:00 (UTC).
use Rattle.std.specs.Prelude.{ℕ, ℤ, pos, ◌+◌, ◌-◌, ◌*◌, ◌+ℤ◌, ◌*ℤ◌, ◌&&◌, ◌==◌, nat_le, Bool, List, Option, None, Some, length, slice_index, if◌then◌else◌}
use Rattle.std.specs.Prelude.{option_and_then}
use Rattle.jiff.specs.Words.{days_in_month}
use Rattle.jiff_core.specs.Calendar.{days_from_civil}
use Rattle.toml.specs.Data.{Data, as_str}
use Rattle.description_values.specs.Values.{in_range, at_key}

-- an ASCII digit at a place of a text
abbrev pub has_digit : List ℕ → ℕ → Bool
has_digit text i = nat_le 48 (slice_index text i) && nat_le (slice_index text i) 57

-- the two digits from a place on, as a number
abbrev pub two_digits : List ℕ → ℕ → ℕ
two_digits text i = 10 * (slice_index text i - 48) + (slice_index text (i + 1) - 48)

abbrev pub has_two_digits : List ℕ → ℕ → Bool
has_two_digits text i = has_digit text i && has_digit text (i + 1)

-- the 19 characters YYYY-MM-DDThh:mm:ss
abbrev pub has_time_shape : List ℕ → Bool
has_time_shape text = length text == 19
    && (has_two_digits text 0 && has_two_digits text 2 && (slice_index text 4 == 45))
    && (has_two_digits text 5 && (slice_index text 7 == 45) && has_two_digits text 8)
    && (slice_index text 10 == 84)
    && (has_two_digits text 11 && (slice_index text 13 == 58) && has_two_digits text 14)
    && ((slice_index text 16 == 58) && has_two_digits text 17)

-- the calendar has this day, and a clock shows this hour, minute and second
abbrev pub is_civil_date : ℕ → ℕ → ℕ → Bool
is_civil_date year month day = nat_le 1 month && nat_le month 12 && (nat_le 1 day && nat_le day (days_in_month (pos year) month))

abbrev pub is_clock_time : ℕ → ℕ → ℕ → Bool
is_clock_time hour minute second = nat_le hour 23 && nat_le minute 59 && nat_le second 59

-- the seconds since 1970 of a civil date and time
abbrev pub seconds_of : ℕ → ℕ → ℕ → ℕ → ℕ → ℕ → ℤ
seconds_of year month day hour minute second =
    (days_from_civil (pos year) month day *ℤ pos 86400) +ℤ pos (hour * 3600 + minute * 60 + second)

abbrev pub civil_seconds_of : ℕ → ℕ → ℕ → ℕ → ℕ → ℕ → Option ℤ
civil_seconds_of year month day hour minute second =
    if is_civil_date year month day && is_clock_time hour minute second then Some (seconds_of year month day hour minute second) else None

-- the seconds that a text of that shape names
abbrev pub text_seconds : List ℕ → Option ℤ
text_seconds text = civil_seconds_of (100 * two_digits text 0 + two_digits text 2) (two_digits text 5) (two_digits text 8)
    (two_digits text 11) (two_digits text 14) (two_digits text 17)

-- the moment that a text names, from 1970-01-01T00:00:00 to 2037-12-31T23:59:59
abbrev pub moment_of : List ℕ → Option ℕ
moment_of text = if has_time_shape text then option_and_then (in_range (pos 0) (pos 2145916799)) (text_seconds text) else None

abbrev pub moment_in : Data → Option ℕ
moment_in d = option_and_then moment_of (as_str d)

-- the moment at a key that has to be there
abbrev pub moment_at : List ℕ → Data → Option ℕ
moment_at key = at_key key None moment_in
