-- Bytes one after another at an even pace.
use Rattle.std.specs.Prelude.{ℕ, zero, suc, ◌+◌, ◌-◌, ◌*◌, ◌/◌, ◌^◌, ◌<◌, ◌≤◌, List, [], ◌∷◌}
use Rattle.arrival.specs.declared.row.Row.{Row}

-- the times of n bytes: the first at from / parts, each pace / parts after the byte before, rounded down
unfoldable pub times_in_row : ℕ → ℕ → ℕ → ℕ → List ℕ
times_in_row from pace parts zero = []
times_in_row from pace parts (suc n) = from / parts ∷ times_in_row (from + pace) pace parts n

abbrev pub times_of : Row → List ℕ
times_of row = times_in_row row.from row.pace row.parts row.bytes

-- the numbers of a row are within the bounds for a stream of at most 2^40 bytes: no time is after 2^87
pub record IsTimed (row : Row) : Type 0 where
  pub some : 0 < row.parts
  pub few : row.parts ≤ 2 ^ 40
  pub within : row.from + row.bytes * row.pace ≤ 2 ^ 87 * row.parts

-- no time of an arrival is after 2^86
abbrev pub IsEarly : Row → Type 0
IsEarly row = row.from + row.bytes * row.pace ≤ 2 ^ 86 * row.parts

-- the first bytes of a row, and the rest
abbrev pub first_bytes : Row → ℕ → Row
first_bytes row count = record { from = row.from; pace = row.pace; parts = row.parts; bytes = count }

abbrev pub other_bytes : Row → ℕ → Row
other_bytes row count = record { from = row.from + count * row.pace; pace = row.pace; parts = row.parts; bytes = row.bytes - count }
