-- Numbers that stop at the greatest number of their size: products and sums of 128 bits, and numbers narrowed to 64 bits.
use Rattle.std.specs.Prelude.{ℕ, ◌+◌, ◌-◌, ◌*◌, ◌^◌, ◌==◌, min, List, [], ◌∷◌, Option, Some, None, option_map, nat_le, if◌then◌else◌}
use Rattle.std.specs.Int.{div_ceil}

-- the greatest numbers of 128 and of 64 bits
abbrev pub most_wide : ℕ
most_wide = 2 ^ 128 - 1

abbrev pub most_long : ℕ
most_long = 2 ^ 64 - 1

-- the product of all factors, without an end
unfoldable pub whole_product : List ℕ → ℕ
whole_product [] = 1
whole_product (x ∷ xs) = x * whole_product xs

-- the product, or the greatest number of 128 bits if it has more
abbrev pub product : List ℕ → ℕ
product xs = min (whole_product xs) most_wide

-- the sum, or the greatest number of 128 bits if it has more
abbrev pub plus : ℕ → ℕ → ℕ
plus a b = min (a + b) most_wide

-- the difference, none if it is less than 0
abbrev pub less : ℕ → ℕ → Option ℕ
less a b = if nat_le b a then Some (a - b) else None

-- the least number that gives at least the dividend when it is multiplied by the divisor, none of a divisor 0
abbrev pub rounded_up : ℕ → ℕ → Option ℕ
rounded_up dividend divisor = if divisor == 0 then None else Some (div_ceil dividend divisor)

-- a number, or the greatest of 64 bits if it has more
abbrev pub narrowed : ℕ → ℕ
narrowed n = min n most_long

abbrev pub all_narrowed : Option ℕ → Option ℕ
all_narrowed n = option_map narrowed n
