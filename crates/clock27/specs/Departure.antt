-- When bytes leave a buffer (ISO/IEC 13818-1, 2.4.2.3).
use Rattle.std.specs.Prelude.{ℕ, ◌+◌, max, List, [], ◌∷◌}

-- the departures of bytes that arrive at these times: each leaves `step` after it arrived or after the byte before it
-- left, whichever is later; `prev` is when the byte before the first left, 0 for the first
unfoldable pub departures : ℕ → ℕ → List ℕ → List ℕ
departures step prev [] = []
departures step prev (t ∷ ts) = (max t prev + step) ∷ departures step (max t prev + step) ts

-- the last departure, `prev` if no byte arrives
unfoldable pub last_left : ℕ → ℕ → List ℕ → ℕ
last_left step prev [] = prev
last_left step prev (t ∷ ts) = last_left step (max t prev + step) ts
