-- Numbers with a unit after them.
use Rattle.std.specs.Prelude.{ℕ, ◌*◌, ◌==◌, ◌&&◌, Bool, [], Option, Some, None, if◌then◌else◌, nat_lt, length, codes, option_map}
use Rattle.std.specs.List.{after_first, before_first, position_or_len}
use Rattle.std.specs.Str.{bytes_eq}
use Rattle.clap.specs.Words.{Text}
use Rattle.devices.specs.Options.{within}
use Rattle.word_faults.specs.Lists.{number_in}
use Rattle.word_faults.specs.declared.scaled.Scale.{Scale}
use Rattle.word_faults.specs.declared.scaled.Scale.TheVariants.{Bits, Ticks, Millis}

-- the text before a unit at its end: the unit by its first character, and its further characters
abbrev pub ends_with : ℕ → Text → Text → Bool
ends_with first rest text = nat_lt (position_or_len (λ b. b == first) text) (length text) && bytes_eq (after_first (λ b. b == first) text) rest

abbrev pub before_unit : ℕ → Text → Text → Option Text
before_unit first rest text = if ends_with first rest text then Some (before_first (λ b. b == first) text) else None

-- a number times the factor of its unit: the number before a unit is at most 1,000,000,000
unfoldable pub times : ℕ → Option Text → Option ℕ
times factor None = None
times factor (Some text) = option_map (λ n. n * factor) (number_in 0 1000000000 text)

abbrev pub either : Option ℕ → Option ℕ → Option ℕ
either None other = other
either (Some n) other = Some n

-- k and M of bits a second, ms and s of units of 90 kHz and of milliseconds
unfoldable pub unit_value : Scale → Text → Option ℕ
unit_value Bits text = either (times 1000 (before_unit 107 [] text)) (times 1000000 (before_unit 77 [] text))
unit_value Ticks text = either (times 90 (before_unit 109 (codes "s") text)) (times 90000 (before_unit 115 [] text))
unit_value Millis text = either (times 1 (before_unit 109 (codes "s") text)) (times 1000 (before_unit 115 [] text))

-- a number in its range, with a unit or as digits alone
abbrev pub value_or : Option ℕ → ℕ → ℕ → Text → Option ℕ
value_or None least greatest text = number_in least greatest text
value_or (Some n) least greatest text = within least greatest n

abbrev pub scaled_in : Scale → ℕ → ℕ → Text → Option ℕ
scaled_in scale least greatest text = value_or (unit_value scale text) least greatest text
