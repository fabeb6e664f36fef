-- Numbers that several conditions ask for: none if one condition can't be kept.
use Rattle.std.specs.Prelude.{ℕ, zero, suc, max, min, Option, Some, None}

-- the greater and the lesser of two such numbers
abbrev pub greater : Option ℕ → Option ℕ → Option ℕ
greater (Some a) (Some b) = Some (max a b)
greater (Some a) None = None
greater None b = None

abbrev pub lesser : Option ℕ → Option ℕ → Option ℕ
lesser (Some a) (Some b) = Some (min a b)
lesser (Some a) None = None
lesser None b = None

-- the greatest, and the least, of a number and f 0 .. f (n - 1)
unfoldable pub greatest_of : Option ℕ → ℕ → (ℕ → Option ℕ) → Option ℕ
greatest_of first zero f = first
greatest_of first (suc n) f = greater (greatest_of first n f) (f n)

unfoldable pub least_of : Option ℕ → ℕ → (ℕ → Option ℕ) → Option ℕ
least_of first zero f = first
least_of first (suc n) f = lesser (least_of first n f) (f n)
