-- The state of a main buffer.
use Rattle.std.specs.Prelude.{◌≡◌, ℕ, ◌+◌, List, true}
use Rattle.tstd.specs.declared.buffered_units.BufferedUnit.{BufferedUnit}
use Rattle.tstd.specs.declared.main_buffer.MainBuffer.{MainBuffer}
use Rattle.tstd.specs.BufferedUnits.{all_buffered, buffered_bytes, all_bytes, all_until}

-- the fullness of a buffer at the moment x, by the bytes that have entered it
abbrev pub fullness_at : {A : Type 0} → MainBuffer A → ℕ → ℕ
fullness_at buffer x = all_buffered x buffer.earlier.items + buffered_bytes x buffer.current

-- the counts of a buffer agree with its bytes
pub record AreCounted (units : List BufferedUnit) (current : BufferedUnit) (next fullness : ℕ) : Type 0 where
  pub all : fullness ≡ all_bytes units + current.bytes
  pub early : all_until next units ≡ true

abbrev pub IsSound : {A : Type 0} → MainBuffer A → Type 0
IsSound buffer = AreCounted buffer.earlier.items buffer.current buffer.next buffer.fullness
