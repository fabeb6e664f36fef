-- The bytes of a NAL unit without its emulation prevention bytes, step by step: at the front, and after the front
use Rattle.std.proofs.Common.{◌≡◌, ℕ, zero, suc, ◌-◌, true, false, refl, ap₂, subst, inl, inr, rules, arith, List, [], ◌∷◌, length, take, drop, None, Some}
use Rattle.std.proofs.lemmas.Bool.{cases_Bool}
use Rattle.std.proofs.lemmas.Slice.Eq.{bytes_eq-Decides}
use Rattle.std.specs.List.{slice_get}
use Rattle.std.specs.Str.{bytes_eq}
use Rattle.stream_coding.specs.Rbsp.{rbsp_bytes}

-- The bytes 00 00 03 at the front, and other bytes at the front
pub all_prevented : (a b c : ℕ) → bytes_eq (a ∷ b ∷ c ∷ []) (0 ∷ 0 ∷ 3 ∷ []) ≡ true → (a ∷ b ∷ c ∷ []) ≡ (0 ∷ 0 ∷ 3 ∷ [])
all_prevented a b c is = let d = bytes_eq-Decides (a ∷ b ∷ c ∷ []) (0 ∷ 0 ∷ 3 ∷ []) in search (rules)

pub prevention : (bytes : List ℕ) → bytes_eq (take 3 bytes) (0 ∷ 0 ∷ 3 ∷ []) ≡ true → rbsp_bytes bytes ≡ 0 ∷ 0 ∷ rbsp_bytes (drop 3 bytes)
unfolding rbsp_bytes
prevention [] is = absurd cc
prevention (a ∷ []) is = absurd (let no : false ≡ true = search rules in cc)
prevention (a ∷ b ∷ []) is = absurd (let no : false ≡ true = search rules in cc)
prevention (a ∷ b ∷ c ∷ rest) is =
    let zeros = all_prevented a b c is in
    let first : a ≡ 0 = cc in
    let second : b ≡ 0 = cc in
    rw is (ap₂ (λ (x y : ℕ). x ∷ y ∷ rbsp_bytes rest) first second)

pub no_prevention : (a : ℕ) (rest : List ℕ) → bytes_eq (take 3 (a ∷ rest)) (0 ∷ 0 ∷ 3 ∷ []) ≡ false → rbsp_bytes (a ∷ rest) ≡ a ∷ rbsp_bytes rest
unfolding rbsp_bytes
no_prevention a [] is = refl
no_prevention a (b ∷ []) is = refl
no_prevention a (b ∷ c ∷ rest) is = rw is refl

first_byte : (a : ℕ) (rest : List ℕ) → slice_get (rbsp_bytes (a ∷ rest)) 0 ≡ Some a
unfolding rbsp_bytes
first_byte a [] = refl
first_byte a (b ∷ []) = refl
first_byte a (b ∷ c ∷ rest) = elim (cases_Bool (bytes_eq (a ∷ b ∷ c ∷ []) (0 ∷ 0 ∷ 3 ∷ []))) [
  | inl is ↦ rw is refl
  | inr other ↦ rw other refl
]

pub byte_here : (bytes rest : List ℕ) (a n : ℕ) → bytes ≡ a ∷ rest → n ≡ 0 → slice_get (rbsp_bytes bytes) n ≡ Some a
byte_here bytes rest a n is none = rw is (rw none (first_byte a rest))

pub byte_later : (bytes rest : List ℕ) (a n : ℕ) → bytes ≡ a ∷ rest → (n ≡ 0 → ⊥) → bytes_eq (take 3 bytes) (0 ∷ 0 ∷ 3 ∷ []) ≡ false →
    slice_get (rbsp_bytes bytes) n ≡ slice_get (rbsp_bytes rest) (n - 1)
byte_later bytes rest a zero is some other = absurd (some refl)
byte_later bytes rest a (suc n) is some other =
    let less : suc n - 1 ≡ n = omega arith in
    let next = no_prevention a rest (subst (λ (l : List ℕ). bytes_eq (take 3 l) (0 ∷ 0 ∷ 3 ∷ []) ≡ false) is other) in
    rw (is, next, less) refl

pub byte_second : (bytes : List ℕ) (n : ℕ) → n ≡ 1 → bytes_eq (take 3 bytes) (0 ∷ 0 ∷ 3 ∷ []) ≡ true → slice_get (rbsp_bytes bytes) n ≡ Some 0
byte_second bytes n one is = rw (prevention bytes is) (rw one refl)

pub byte_after : (bytes : List ℕ) (n : ℕ) → (n ≡ 0 → ⊥) → (n ≡ 1 → ⊥) → bytes_eq (take 3 bytes) (0 ∷ 0 ∷ 3 ∷ []) ≡ true →
    slice_get (rbsp_bytes bytes) n ≡ slice_get (rbsp_bytes (drop 3 bytes)) (n - 2)
byte_after bytes zero none one is = absurd (none refl)
byte_after bytes (suc zero) none one is = absurd (one refl)
byte_after bytes (suc (suc n)) none one is =
    let less : suc (suc n) - 2 ≡ n = omega arith in
    rw (prevention bytes is, less) refl

pub byte_nowhere : (bytes : List ℕ) (n : ℕ) → length bytes ≡ 0 → slice_get (rbsp_bytes bytes) n ≡ None
unfolding rbsp_bytes
byte_nowhere [] n none = refl
byte_nowhere (b ∷ bytes) n none = absurd cc
