-- Lists of bytes, and the bytes that a reader takes from their front.
use Rattle.std.proofs.Common.{ℕ, zero, suc, ◌+◌, ◌<◌, refl, List, [], ◌∷◌, ◌++◌, length, get_or, take, drop, sym, arith, inl, inr}
use Rattle.std.proofs.lemmas.Bool.{cases_lt}
use Rattle.std.proofs.lemmas.List.{get_or-drop, get_or-take, get_or_past, length-take, take-append-drop}
use Rattle.bit_fields.specs.Fields.{IsBytes}
use Rattle.bit_fields.specs.Reading.{Takes}

pub IsBytes-nil : IsBytes []
IsBytes-nil i = omega arith

pub IsBytes-head : (b : ℕ) (bytes : List ℕ) → IsBytes (b ∷ bytes) → b < 256
IsBytes-head b bytes h = h 0

pub IsBytes-tail : (b : ℕ) (bytes : List ℕ) → IsBytes (b ∷ bytes) → IsBytes bytes
IsBytes-tail b bytes h i = h (suc i)

pub IsBytes-cons : (b : ℕ) (bytes : List ℕ) → b < 256 → IsBytes bytes → IsBytes (b ∷ bytes)
IsBytes-cons b bytes lt h zero = lt
IsBytes-cons b bytes lt h (suc i) = h i

pub IsBytes-drop : (n : ℕ) (bytes : List ℕ) → IsBytes bytes → IsBytes (drop n bytes)
IsBytes-drop n bytes h i = rw get_or-drop (h (n + i))

pub IsBytes-take : (n : ℕ) (bytes : List ℕ) → IsBytes bytes → IsBytes (take n bytes)
IsBytes-take n bytes h i =
    elim (cases_lt i n) [
      | inl lt ↦ rw (get_or-take n bytes i 0 lt) (h i)
      | inr le ↦ rw (get_or_past (take n bytes) i 0 (omega (arith, length-take n bytes))) (omega arith)
    ]

pub IsBytes-append : (xs ys : List ℕ) → IsBytes xs → IsBytes ys → IsBytes (xs ++ ys)
IsBytes-append [] ys h k = k
IsBytes-append (b ∷ xs) ys h k = IsBytes-cons b (xs ++ ys) (h 0) (IsBytes-append xs ys (IsBytes-tail b xs h) k)

pub IsBytes-append_left : (xs ys : List ℕ) → IsBytes (xs ++ ys) → IsBytes xs
IsBytes-append_left [] ys h = IsBytes-nil
IsBytes-append_left (b ∷ xs) ys h = IsBytes-cons b xs (h 0) (IsBytes-append_left xs ys (IsBytes-tail b (xs ++ ys) h))

pub IsBytes-append_right : (xs ys : List ℕ) → IsBytes (xs ++ ys) → IsBytes ys
IsBytes-append_right [] ys h = h
IsBytes-append_right (b ∷ xs) ys h = IsBytes-append_right xs ys (IsBytes-tail b (xs ++ ys) h)

-- No byte is taken.
pub Takes-none : (bytes : List ℕ) → IsBytes bytes → Takes bytes [] bytes
Takes-none bytes h = record { is = refl; rest_fits = h }

-- The first n bytes are taken.
pub Takes-front : (n : ℕ) (bytes : List ℕ) → IsBytes bytes → Takes bytes (take n bytes) (drop n bytes)
Takes-front n bytes h = record { is = sym (take-append-drop n bytes); rest_fits = IsBytes-drop n bytes h }
