-- The fullness of a buffer: the number of bytes in it (ISO/IEC 13818-1, 2.4.2.3).
use Rattle.std.specs.Prelude.{ℕ, ◌+◌, ◌≤◌, Bool, cond, nat_le, nat_lt, ◌&&◌, List, [], ◌∷◌}

-- a byte that arrives at t and leaves at d is in the buffer at the moment x
abbrev pub is_in_buffer : ℕ → ℕ → ℕ → Bool
is_in_buffer x t d = nat_le t x && nat_lt x d

-- the number of bytes in the buffer at the moment x, of bytes with these arrivals and these departures
unfoldable pub fullness : ℕ → List ℕ → List ℕ → ℕ
fullness x [] ds = 0
fullness x (t ∷ ts) [] = 0
fullness x (t ∷ ts) (d ∷ ds) = cond (is_in_buffer x t d) 1 0 + fullness x ts ds

-- each byte leaves at most `wait` after it arrived
unfoldable pub Stays : ℕ → List ℕ → List ℕ → Type 0
Stays wait [] ds = Unit {0}
Stays wait (t ∷ ts) [] = Unit {0}
Stays wait (t ∷ ts) (d ∷ ds) = (d ≤ t + wait) × Stays wait ts ds
