-- Bytes by the moment until which they stay in a main buffer.
use Rattle.std.specs.Prelude.{ℕ, ◌+◌, cond, nat_lt, nat_le, ◌&&◌, Bool, true, List, [], ◌∷◌}
use Rattle.tstd.specs.declared.buffered_units.BufferedUnit.{BufferedUnit}

-- the bytes of a unit are in the buffer at the moment x
abbrev pub is_buffered : ℕ → BufferedUnit → Bool
is_buffered x unit = nat_lt x unit.until

-- the number of bytes of a unit in the buffer at the moment x
abbrev pub buffered_bytes : ℕ → BufferedUnit → ℕ
buffered_bytes x unit = cond (is_buffered x unit) unit.bytes 0

unfoldable pub all_buffered : ℕ → List BufferedUnit → ℕ
all_buffered x [] = 0
all_buffered x (unit ∷ units) = buffered_bytes x unit + all_buffered x units

-- the number of bytes of all units
unfoldable pub all_bytes : List BufferedUnit → ℕ
all_bytes [] = 0
all_bytes (unit ∷ units) = unit.bytes + all_bytes units

-- all units stay until `until` at least
unfoldable pub all_until : ℕ → List BufferedUnit → Bool
all_until until [] = true
all_until until (unit ∷ units) = nat_le until unit.until && all_until until units

-- one byte that stays until `until`
abbrev pub one_buffered : ℕ → ℕ → ℕ
one_buffered until x = cond (nat_lt x until) 1 0
