-- Values of options of a job that are a word or a moment.
use Rattle.std.specs.Prelude.{ℕ, ◌==◌, ◌||◌, ◌&&◌, Bool, List, Option, Some, None, is_some, if◌then◌else◌, codes, option_map}
use Rattle.std.specs.Char.{is_ascii_digit}
use Rattle.std.specs.List.{list_all}
use Rattle.std.specs.Str.{bytes_eq}
use Rattle.clap.specs.Words.{Text}
use Rattle.description_values.specs.Moments.{moment_of}
use Rattle.given_values.specs.declared.clock_base.ClockBase.{ClockBase}
use Rattle.given_values.specs.declared.clock_base.ClockBase.TheVariants.{Lasting, Input, At}
use Rattle.given_values.specs.declared.clock_sharing.ClockSharing.{ClockSharing}
use Rattle.given_values.specs.declared.clock_sharing.ClockSharing.TheVariants as sharing
use Rattle.given_values.specs.declared.declare_by.DeclareBy.{DeclareBy}
use Rattle.given_values.specs.declared.declare_by.DeclareBy.TheVariants as by
use Rattle.word_faults.specs.Lists.{number_in}

-- by what packets are declared: without a word, by either
unfoldable pub declare_by_of : Option Text → Option DeclareBy
declare_by_of None = Some by.Either
declare_by_of (Some text) =
    if bytes_eq text (codes "groups") then Some by.Groups
    else (if bytes_eq text (codes "time") then Some by.Pace else None)

-- which programs share a clock: without a word, those without video
unfoldable pub clock_sharing_of : Option Text → Option ClockSharing
clock_sharing_of None = Some sharing.WithoutVideo
clock_sharing_of (Some text) =
    if bytes_eq text (codes "each") then Some sharing.Each
    else (if bytes_eq text (codes "one") then Some sharing.One else None)

-- the greatest number of 33 bits: the system clock in units of 90 kHz (ISO/IEC 13818-1, 2.4.3.5)
abbrev pub greatest_base : ℕ
greatest_base = 8589934591

-- a number, or the word for the clock of the input; without a value, a clock that lasts
unfoldable pub base_of : Option Text → Option ClockBase
base_of None = Some Lasting
base_of (Some text) = if bytes_eq text (codes "input") then Some Input else option_map At (number_in 0 greatest_base text)

-- digits, `-`, `:` and `T`
abbrev pub is_of_time : ℕ → Bool
is_of_time byte = is_ascii_digit byte || byte == 45 || byte == 58 || byte == 84

-- a day of the calendar and a time of the day, from 1970 to 2037
abbrev pub is_moment : List ℕ → Bool
is_moment text = list_all is_of_time text && is_some (moment_of text)

-- the moment of the first slot, if it is given
unfoldable pub start_of : Option Text → Option (Option Text)
start_of None = Some None
start_of (Some text) = if is_moment text then Some (Some text) else None
