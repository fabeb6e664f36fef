-- Words and numbers of a text: how they are written, and read from left to right. Each reader gives what it finds at the
-- front and the text after it, or nothing.
use Rattle.std.specs.Prelude.{ℕ, ◌+◌, ◌-◌, ◌*◌, ◌^◌, ◌==◌, ◌&&◌, List, [], ◌∷◌, ◌++◌, Option, None, Some, nat_eq, nat_le, nat_lt, length, drop, decimal}
use Rattle.std.specs.Prelude.{if◌then◌else◌}
use Rattle.std.specs.List.{starts_with}

-- each number of a field is below this
abbrev pub number_limit : ℕ
number_limit = 10 ^ 18

-- a word with its space, its number, and the byte that ends them: a space, or LF
abbrev pub field : List ℕ → ℕ → ℕ → List ℕ
field word number ending = word ++ decimal number ++ ending ∷ []

-- one reader, and then another on what it gave; nothing stays nothing
infixr 10 ◌>>=◌
abbrev pub ◌>>=◌ : {A B : Type 0} → Option A → (A → Option B) → Option B
None >>= f = None
(Some x) >>= f = f x

-- the text after a word
abbrev pub after_word : List ℕ → List ℕ → Option (List ℕ)
after_word word xs = if starts_with nat_eq xs word then Some (drop (length word) xs) else None

-- a number whose first digits make n: further digits, but none after a 0, and the byte that ends it
abbrev pub more_digits : ℕ → ℕ → ℕ → List ℕ → Option (ℕ × List ℕ)
more_digits ending limit n [] = None
more_digits ending limit n (b ∷ bs) =
    if nat_le 48 b && nat_le b 57
    then (if nat_lt 0 n && nat_lt (n * 10 + (b - 48)) limit then more_digits ending limit (n * 10 + (b - 48)) bs else None)
    else (if b == ending then Some (n, bs) else None)

-- a number below the limit, without a leading zero, and the byte that ends it
abbrev pub number_before : ℕ → ℕ → List ℕ → Option (ℕ × List ℕ)
number_before ending limit [] = None
number_before ending limit (b ∷ bs) = if nat_le 48 b && nat_le b 57 && nat_lt (b - 48) limit then more_digits ending limit (b - 48) bs else None

-- a word with its space, a number below 10^18, and the byte that ends it
abbrev pub field_at : List ℕ → ℕ → List ℕ → Option (ℕ × List ℕ)
field_at word ending xs = after_word word xs >>= number_before ending number_limit

-- a word with its space, the number k, and a space
abbrev pub after_number : List ℕ → ℕ → List ℕ → Option (List ℕ)
after_number word k xs = field_at word 32 xs >>= (λ n. if n.0 == k then Some n.1 else None)
