-- When the bytes of a transport stream arrive (ISO/IEC 13818-1, 2.4.2.2).
--
-- At R bits a second byte i arrives 8 * i / R seconds after the start. For a buffer that is drained at r bits a second, times are
-- counted in units of 8 / (R * r) seconds: there byte i arrives at i * r, and one byte takes R to leave.
use Rattle.std.specs.Prelude.{ℕ, zero, suc, ◌*◌, List, [], ◌∷◌, ◌++◌}

-- the arrivals of n bytes, from byte i on
unfoldable pub bytes_from : ℕ → ℕ → ℕ → List ℕ
bytes_from r i zero = []
bytes_from r i (suc n) = i * r ∷ bytes_from r (suc i) n

-- the arrivals of the bytes of whole packets, by the packets' indices
unfoldable pub arrivals : ℕ → List ℕ → List ℕ
arrivals r [] = []
arrivals r (slot ∷ slots) = bytes_from r (188 * slot) 188 ++ arrivals r slots
