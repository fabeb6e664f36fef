-- The fewest bytes that a byte finds in a main buffer.
--
-- Bytes leave the buffer a whole unit at a time and enter it one by one. So between two entries it only empties, and it holds the fewest bytes when the units
-- due by then are removed and the next byte has not entered: the number that the next byte finds.
use Rattle.std.specs.Prelude.{ℕ, ◌+◌, ◌*◌, min, List, [], ◌∷◌, Option, Some, None}
use Rattle.tstd.specs.BufferedUnits.{one_buffered}
use Rattle.tstd.specs.BufferState.{fullness_at}
use Rattle.tstd.specs.declared.main_buffer.MainBuffer.{MainBuffer}

-- the least of a number and of the numbers so far, if any
unfoldable pub lesser : Option ℕ → ℕ → Option ℕ
lesser None n = Some n
lesser (Some m) n = Some (min m n)

-- bytes of a unit that stays until `until` enter at these times, after `n` bytes of that unit: the fewest bytes that a byte finds, not counting itself, if
-- `before x` bytes of other units are there at x; `least` is the least number so far
unfoldable pub least_found : (ℕ → ℕ) → ℕ → ℕ → Option ℕ → List ℕ → Option ℕ
least_found before until n least [] = least
least_found before until n least (t ∷ ts) = least_found before until (n + 1) (lesser least (before t + n * one_buffered until t)) ts

-- the least of the number so far and of the numbers of bytes that these bytes find in a buffer
abbrev pub least_in : {A : Type 0} → MainBuffer A → Option ℕ → List ℕ → Option ℕ
least_in buffer least times = least_found (fullness_at buffer) buffer.current.until 0 least times
