-- The place in SEI messages, step by step: after a byte of a NAL unit, after an emulation prevention byte, and at the end of the unit
use Rattle.std.proofs.Common.{◌≡◌, ◌∙◌, ℕ, ◌==◌, true, false, refl, ap, subst, sym, inl, inr, rules, List, [], ◌∷◌, length, take, drop}
use Rattle.std.proofs.lemmas.Bool.{cases_Bool}
use Rattle.std.specs.List.{fold}
use Rattle.std.specs.Str.{bytes_eq}
use Rattle.stream_coding.specs.Sei.{ends_nal, nal_bytes, next_place, place_after}
use Rattle.stream_coding.specs.Rbsp.{rbsp_bytes}
use Rattle.stream_coding.specs.declared.sei.SeiPlace.{SeiPlace}
use Rattle.stream_coding.proofs.RbspBytes.{all_prevented, no_prevention, prevention}

-- 1. At the end of a NAL unit

pub after_nothing : (p : SeiPlace) (bytes : List ℕ) → length bytes ≡ 0 → place_after p bytes ≡ p
unfolding place_after nal_bytes rbsp_bytes
after_nothing p [] none = refl
after_nothing p (b ∷ bytes) none = absurd cc

no_bytes : (bytes rest : List ℕ) (b : ℕ) → bytes ≡ b ∷ rest → ends_nal bytes ≡ true → nal_bytes bytes ≡ []
unfolding nal_bytes
no_bytes bytes rest b is ends = rw is (rw (subst (λ (l : List ℕ). ends_nal l ≡ true) is ends) refl)

pub after_end : (p : SeiPlace) (bytes rest : List ℕ) (b : ℕ) → bytes ≡ b ∷ rest → ends_nal bytes ≡ true → place_after p bytes ≡ p
unfolding place_after rbsp_bytes
after_end p bytes rest b is ends = rw (no_bytes bytes rest b is ends) refl

-- 2. After a byte of the NAL unit

one_more : (b : ℕ) (rest : List ℕ) → ends_nal (b ∷ rest) ≡ false → nal_bytes (b ∷ rest) ≡ b ∷ nal_bytes rest
unfolding nal_bytes
one_more b rest within = rw within refl

-- One or two bytes are never 00 00 03.
one_alone : (b : ℕ) → bytes_eq (b ∷ []) (0 ∷ 0 ∷ 3 ∷ []) ≡ false
one_alone b = elim (cases_Bool (b == 0)) [
  | inl is ↦ rw is refl
  | inr other ↦ rw other refl
]

two_alone : (b x : ℕ) → bytes_eq (b ∷ x ∷ []) (0 ∷ 0 ∷ 3 ∷ []) ≡ false
two_alone b x = elim (cases_Bool (b == 0)) [
  | inl is ↦ rw is (elim (cases_Bool (x == 0)) [
    | inl same ↦ rw same refl
    | inr other ↦ rw other refl
  ])
  | inr other ↦ rw other refl
]

-- If bytes do not begin with 00 00 03, neither does the NAL unit at their front.
none_prevented : (b : ℕ) (rest : List ℕ) → bytes_eq (take 3 (b ∷ rest)) (0 ∷ 0 ∷ 3 ∷ []) ≡ false →
    bytes_eq (take 3 (b ∷ nal_bytes rest)) (0 ∷ 0 ∷ 3 ∷ []) ≡ false
unfolding nal_bytes
none_prevented b [] other = other
none_prevented b (x ∷ []) other = elim (cases_Bool (ends_nal (x ∷ []))) [
  | inl ends ↦ rw ends (one_alone b)
  | inr within ↦ rw within (two_alone b x)
]
none_prevented b (x ∷ y ∷ rest) other = elim (cases_Bool (ends_nal (x ∷ y ∷ rest))) [
  | inl ends ↦ rw ends (one_alone b)
  | inr within ↦ rw within (elim (cases_Bool (ends_nal (y ∷ rest))) [
    | inl ends ↦ rw ends (two_alone b x)
    | inr within ↦ rw within other
  ])
]

pub after_byte : (p : SeiPlace) (bytes rest : List ℕ) (b : ℕ) → bytes ≡ b ∷ rest → ends_nal bytes ≡ false →
    bytes_eq (take 3 bytes) (0 ∷ 0 ∷ 3 ∷ []) ≡ false → place_after p bytes ≡ place_after (next_place p b) rest
unfolding place_after
after_byte p bytes rest b is within other =
    let here = one_more b rest (subst (λ (l : List ℕ). ends_nal l ≡ false) is within) in
    let plain = no_prevention b (nal_bytes rest)
    (none_prevented b rest (subst (λ (l : List ℕ). bytes_eq (take 3 l) (0 ∷ 0 ∷ 3 ∷ []) ≡ false) is other)) in
    rw (is, here, plain) refl

-- 3. After 00 00 03

prevented : (rest : List ℕ) → nal_bytes (0 ∷ 0 ∷ 3 ∷ rest) ≡ 0 ∷ 0 ∷ 3 ∷ nal_bytes rest
unfolding nal_bytes ends_nal
prevented [] = refl
prevented (a ∷ []) = refl
prevented (a ∷ b ∷ rest) = refl

pub after_prevention : (p : SeiPlace) (bytes : List ℕ) → bytes_eq (take 3 bytes) (0 ∷ 0 ∷ 3 ∷ []) ≡ true →
    place_after p bytes ≡ place_after (next_place (next_place p 0) 0) (drop 3 bytes)
unfolding place_after rbsp_bytes
after_prevention p [] is = absurd (let no : false ≡ true = search rules in cc)
after_prevention p (a ∷ []) is = absurd (let no : false ≡ true = search rules in cc)
after_prevention p (a ∷ b ∷ []) is = absurd (let no : false ≡ true = search rules in cc)
after_prevention p (a ∷ b ∷ c ∷ rest) is =
    let zeros = all_prevented a b c is in
    let first : a ≡ 0 = cc in
    let second : b ≡ 0 = cc in
    let third : c ≡ 3 = cc in
    rw (first, second, third, prevented rest) refl
