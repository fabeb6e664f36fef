-- Numbers and flags of a command line.
use Rattle.std.specs.Prelude.{ℕ, ◌&&◌, Bool, false, Option, Some, None, nat_le, nat_lt, length, if◌then◌else◌, codes, option_and_then, option_map}
use Rattle.std.specs.Char.{is_ascii_digit}
use Rattle.std.specs.List.{list_all}
use Rattle.std.specs.Str.{bytes_eq}
use Rattle.std.specs.Str.Parse.{digits_value}
use Rattle.clap.specs.Words.{Rule, Text, new_rule}
use Rattle.clap.specs.declared.builder.action.ArgAction.TheVariants.{SetTrue}

-- 1. As the command line declares them

-- an option `--NAME VALUE`
abbrev pub option_rule : Text → Rule
option_rule name = record (new_rule name) { long = Some name }

-- a flag `--NAME`
abbrev pub flag_rule : Text → Rule
flag_rule name = record (new_rule name) { long = Some name; action = Some SetTrue }

-- 2. Their values

-- a number within a range
abbrev pub within : ℕ → ℕ → ℕ → Option ℕ
within low high n = if nat_le low n && nat_le n high then Some n else None

-- the value of decimal digits: at least one, and nothing besides
abbrev pub is_decimal : Text → Bool
is_decimal text = nat_lt 0 (length text) && list_all is_ascii_digit text

unfoldable pub decimal : Text → Option ℕ
decimal text = if is_decimal text then Some (digits_value 10 text) else None

-- an option's number, its default if the option is not given
unfoldable pub number_option : ℕ → ℕ → ℕ → Option Text → Option ℕ
number_option low high default None = Some default
number_option low high default (Some text) = option_and_then (within low high) (decimal text)

-- the number of an option that must be given
unfoldable pub number_given : ℕ → ℕ → Option Text → Option ℕ
number_given low high None = None
number_given low high (Some text) = option_and_then (within low high) (decimal text)

-- the number of an option that need not be given, none if it is out of its range
unfoldable pub number_if_given : ℕ → ℕ → Option Text → Option (Option ℕ)
number_if_given low high None = Some None
number_if_given low high (Some text) = option_map Some (option_and_then (within low high) (decimal text))

-- a flag is given
unfoldable pub is_given : Option Text → Bool
is_given None = false
is_given (Some text) = bytes_eq text (codes "true")
