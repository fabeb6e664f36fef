-- The greatest and the least of finitely many numbers, in the shape of a loop that keeps it.
use Rattle.std.specs.Prelude.{ℕ, zero, suc, max, min}

-- the greatest of f 0 .. f (n - 1), 0 if n is 0
unfoldable pub greatest : ℕ → (ℕ → ℕ) → ℕ
greatest zero f = 0
greatest (suc n) f = max (greatest n f) (f n)

-- the least of top and f 0 .. f (n - 1)
unfoldable pub least : ℕ → ℕ → (ℕ → ℕ) → ℕ
least top zero f = top
least top (suc n) f = min (least top n f) (f n)
