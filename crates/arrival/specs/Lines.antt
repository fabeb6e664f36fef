-- The time of arrival of a byte on a line between two clock references (ISO/IEC 13818-1, 2.4.2.2).
--
-- With references of the values v and v' at the bytes k and k', byte i arrives (i - k) * (v' - v) / (k' - k) ticks of 27 MHz after v: the line has byte = k,
-- moment = v, bytes = k' - k, ticks = v' - v. It extends to the bytes before k and after k'.
use Rattle.std.specs.Prelude.{ℕ, zero, suc, ◌+◌, ◌-◌, ◌*◌, ◌/◌, ◌≤◌, List, [], ◌∷◌}
use Rattle.clock27.specs.Units.{byte_ticks_at_1bps}
use Rattle.arrival.specs.declared.line.Line.{Line}

-- the line of a constant rate
abbrev pub constant_line : ℕ → Line
constant_line rate = record { byte = 0; moment = 0; bytes = rate; ticks = byte_ticks_at_1bps }

-- byte i does not lie before moment 0
abbrev pub Reaches : Line → ℕ → Type 0
Reaches line i = line.byte * line.ticks ≤ line.moment * line.bytes + i * line.ticks

-- the moment of byte i, multiplied by the line's number of bytes: a whole number
abbrev pub parts_at : Line → ℕ → ℕ
parts_at line i = (line.moment * line.bytes + i * line.ticks) - line.byte * line.ticks

-- when byte i arrives, in units of 1 / scale ticks, rounded down
abbrev pub arrival_at : ℕ → Line → ℕ → ℕ
arrival_at scale line i = scale * parts_at line i / line.bytes

-- the times of n bytes, from byte i on
unfoldable pub arrivals_on : ℕ → Line → ℕ → ℕ → List ℕ
arrivals_on scale line i zero = []
arrivals_on scale line i (suc n) = arrival_at scale line i ∷ arrivals_on scale line (suc i) n
