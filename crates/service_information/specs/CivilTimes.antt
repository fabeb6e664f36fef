-- A moment as a description writes it, YYYY-MM-DDThh:mm:ss.
use Rattle.std.specs.Prelude.{ℕ, ◌+◌, ◌-◌, ◌*◌, ◌/◌, ◌%◌, nat_le, if◌then◌else◌, List, ◌++◌, codes, decimal}

-- the year and the month, as EN 300 468, annex C, counts them on the way from a Modified Julian Date: years from March to February,
-- months from 4, March, to 15, February; there in fractions of ten thousand
abbrev pub counted_year : ℕ → ℕ
counted_year day = (100 * day - 1507820) / 36525

abbrev pub days_before_year : ℕ → ℕ
days_before_year year = year * 1461 / 4

abbrev pub counted_month : ℕ → ℕ → ℕ
counted_month day year = (10000 * (day - days_before_year year) - 149561000) / 306001

-- January and February, counted as 14 and 15, are of the next year
abbrev pub years_on : ℕ → ℕ
years_on month = if nat_le 14 month then 1 else 0

abbrev pub year_of : ℕ → ℕ
year_of day = 1900 + counted_year day + years_on (counted_month day (counted_year day))

abbrev pub month_of : ℕ → ℕ
month_of day = let month = counted_month day (counted_year day) in month - 1 - years_on month * 12

abbrev pub day_of_month : ℕ → ℕ
day_of_month day = day - 14956 - days_before_year (counted_year day) - counted_month day (counted_year day) * 306001 / 10000

unfoldable pub two_digits : ℕ → List ℕ
two_digits n = decimal (n / 10) ++ decimal (n % 10)

-- the date of a Modified Julian Date
unfoldable pub date_text : ℕ → List ℕ
date_text day = decimal (year_of day) ++ (codes "-" ++ (two_digits (month_of day) ++ (codes "-" ++ two_digits (day_of_month day))))

-- the time of day of a number of seconds
unfoldable pub clock_text : ℕ → List ℕ
clock_text seconds = two_digits (seconds / 3600) ++ (codes ":" ++ (two_digits (seconds / 60 % 60) ++ (codes ":" ++ two_digits (seconds % 60))))

-- the date and time of a moment in seconds since 1 January 1970, day 40,587
unfoldable pub civil_text : ℕ → List ℕ
civil_text moment = date_text (moment / 86400 + 40587) ++ (codes "T" ++ clock_text (moment % 86400))
