-- Decimal digits, as `parse` of the standard library reads them.
use Rattle.std.proofs.Common.{◌≡◌, ℕ, ◌+◌, ◌^◌, ◌<◌, Bool, true, false, List, [], ◌∷◌, length, None, refl, sym, ap, subst, ◌∙◌, arith, inl, inr}
use Rattle.std.proofs.lemmas.Bool.{cases_lt}
use Rattle.std.proofs.lemmas.Bool.Decides.{nat_tests}
use Rattle.std.proofs.lemmas.Str.{digit_value_digit}
use Rattle.std.specs.Int.{IsInRange}
use Rattle.std.specs.Prelude.{◌==◌, option_and_then, ◌&&◌, nat_lt, nat_le}
use Rattle.std.specs.List.{list_all}
use Rattle.std.specs.Char.{is_ascii_digit, digit_value}
use Rattle.std.specs.Str.Parse.{AllDigits, IsNumeral, digits_value, without_leading_plus}
use Rattle.devices.specs.Options.{is_decimal, decimal, within}

both : (a b : Bool) → (a && b) ≡ true → (a ≡ true) × (b ≡ true)
both true b e = (refl, e)
both false b e = absurd cc

no_right : (b : Bool) → (b && false) ≡ false
no_right true = refl
no_right false = refl

outside : (low high n : ℕ) → nat_le n high ≡ false → within low high n ≡ None
outside low high n t = rw (t, no_right (nat_le low n)) refl

a_digit : (c : ℕ) → is_ascii_digit c ≡ true → IsInRange 48 57 c
a_digit c e = grind (arith, nat_tests)

all_digits : (bs : List ℕ) → list_all is_ascii_digit bs ≡ true → AllDigits 10 bs
all_digits [] e = tt
all_digits (c ∷ bs) e =
    let h = both (is_ascii_digit c) (list_all is_ascii_digit bs) e in
    let r : IsInRange 48 57 c = a_digit c h.0 in
    let v : digit_value c + 48 ≡ c = digit_value_digit c r in
    (omega (arith, r, v), all_digits bs h.1)

no_plus : (bs : List ℕ) → is_decimal bs ≡ true → without_leading_plus bs ≡ bs
no_plus [] e = absurd cc
no_plus (c ∷ bs) e =
    let h = both (is_ascii_digit c) (list_all is_ascii_digit bs) (both (nat_lt 0 (length (c ∷ bs))) (list_all is_ascii_digit (c ∷ bs)) e).1 in
    let r : IsInRange 48 57 c = a_digit c h.0 in
    let t : (c == 43) ≡ false = grind (arith, nat_tests, r) in
    rw t refl

some_digit : (bs : List ℕ) → is_decimal bs ≡ true → 0 < length bs
some_digit [] e = absurd cc
some_digit (c ∷ bs) e = omega arith

is_numeral : (bs : List ℕ) → is_decimal bs ≡ true → IsNumeral 10 bs
is_numeral bs e = (some_digit bs e, all_digits bs (both (nat_lt 0 (length bs)) (list_all is_ascii_digit bs) e).1)

-- Digits whose number fits 64 bits are read as that number.
pub read_as : (bs : List ℕ) (n low high : ℕ) → is_decimal bs ≡ true → n ≡ digits_value 10 (without_leading_plus bs) →
    option_and_then (within low high) (decimal bs) ≡ within low high n
unfolding decimal
read_as bs n low high d p =
    let v : n ≡ digits_value 10 bs = p ∙ ap (digits_value 10) (no_plus bs d) in
    rw (d, v) refl

-- A number that does not fit 64 bits is above every limit of 64 bits.
pub too_great : (bs : List ℕ) (low high : ℕ) → high < 2 ^ 64 → is_decimal bs ≡ true →
    ¬ (IsNumeral 10 (without_leading_plus bs) × (digits_value 10 (without_leading_plus bs) < 2 ^ 64)) → option_and_then (within low high) (decimal bs) ≡ None
unfolding decimal
too_great bs low high h d p =
    let w : without_leading_plus bs ≡ bs = no_plus bs d in
    elim (cases_lt (digits_value 10 bs) (2 ^ 64)) [
      | inl lt ↦ absurd (p (subst (λ (x : List ℕ). IsNumeral 10 x × (digits_value 10 x < 2 ^ 64)) (sym w) (is_numeral bs d, lt)))
      | inr le ↦ let t : nat_le (digits_value 10 bs) high ≡ false = grind (arith, nat_tests) in rw d (outside low high (digits_value 10 bs) t)
    ]

-- Bytes that are not decimal give no number.
pub no_decimal : (bs : List ℕ) (low high : ℕ) → is_decimal bs ≡ false → option_and_then (within low high) (decimal bs) ≡ None
unfolding decimal
no_decimal bs low high d = rw d refl
