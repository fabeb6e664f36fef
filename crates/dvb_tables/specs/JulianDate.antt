-- The Modified Julian Date (EN 300 468, annex C).
use Rattle.std.specs.Prelude.{ℕ, ℤ, pos, ◌+ℤ◌}
use Rattle.jiff.specs.Types.{Date}
use Rattle.jiff.specs.Words.{epoch_day}
use Rattle.dvb_tables.specs.declared.julian_date.MjdError.{MjdError}
use Rattle.dvb_tables.specs.declared.julian_date.MjdError.TheVariants.{Range}

-- the Modified Julian Date of a civil date: 1 January 1970 is day 40,587
abbrev pub julian_day : Date → ℤ
julian_day date = epoch_day date +ℤ pos 40587

-- the number of the refusal
abbrev pub mjd_error_code : MjdError → ℕ
mjd_error_code Range = 1
