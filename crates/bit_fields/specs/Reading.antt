-- Reading from left to right: a reader on lists answers a value, or the first refusal.
use Rattle.std.specs.Prelude.{◌≡◌, ℕ, Result, Ok, Err, List, ◌++◌}
use Rattle.bit_fields.specs.Fields.{IsBytes}

-- one reader, and then another on what it gave; the first refusal stays
infixl 10 ◌>>=◌
abbrev pub ◌>>=◌ : {A B E : Type 0} → Result A E → (A → Result B E) → Result B E
(Ok x) >>= f = f x
(Err e) >>= f = Err e

-- what a function returned, seen by view, is what reading gives
abbrev pub Gives : {X Y E : Type 0} → (X → Y) → Result X E → Result Y E → Type 0
Gives view (Ok x) read = read ≡ Ok (view x)
Gives view (Err e) read = read ≡ Err e

-- the bytes are a front and the rest, which is bytes again
pub record Takes (bytes front rest : List ℕ) : Type 0 where
  pub is : bytes ≡ front ++ rest
  pub rest_fits : IsBytes rest
