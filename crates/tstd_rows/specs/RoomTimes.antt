-- When the elementary stream buffer EB of video has room for the next bytes, and what the program keeps of these times (ISO/IEC 13818-1, 2.4.2.3, the leak
-- method: while EB is full no byte goes from MB to EB).
--
-- An EB of n bytes has room for a byte when the byte n places before it is removed, with its unit (`rooms_of`). So there are n such times, one for each of
-- the next n bytes, whatever arrives; they are kept by units. A byte goes once it has reached MB, EB has room for it, and the byte before it has gone, plus
-- the time that it takes to leave MB. So a time that is not later than the departure of the byte before makes no difference, nor does a time that is earlier
-- than the time of a byte before it: times are compared after `raised`.
use Rattle.std.specs.Prelude.{ℕ, ◌-◌, ◌^◌, max, min, List, [], ◌∷◌, ◌++◌, replicate}
use Rattle.tstd.specs.declared.buffered_units.BufferedUnit.{BufferedUnit}

-- each time raised to `from` and to every time before it
unfoldable pub raised : ℕ → List ℕ → List ℕ
raised from [] = []
raised from (w ∷ ws) = max from w ∷ raised (max from w) ws

-- the times of bytes that are kept by units
unfoldable pub rooms_waiting : List BufferedUnit → List ℕ
rooms_waiting [] = []
rooms_waiting (u ∷ us) = replicate u.bytes u.until ++ rooms_waiting us

-- the times of the bytes for which there is room at once, of the units that wait, and of the current unit
abbrev pub rooms_in : ℕ → List BufferedUnit → BufferedUnit → List ℕ
rooms_in free waiting current = replicate free 0 ++ (rooms_waiting waiting ++ replicate current.bytes current.until)

-- times stop at 2^128 - 1
abbrev pub capped : ℕ → ℕ
capped time = min time (2 ^ 128 - 1)
