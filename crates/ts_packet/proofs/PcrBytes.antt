-- Comparing packets with and without the bytes of a program clock reference, and the place of these bytes
use Rattle.std.proofs.Common.{◌≡◌, ℕ, Bool, true, false, List, [], ◌∷◌, ◌++◌, length, take, drop, nat_eq, ◌+◌, Some, refl, sym, ap, ◌∙◌, subst, drop_at}
use Rattle.std.proofs.Common.{take_at, append_assoc, arith, length-append, length-drop}
use Rattle.std.proofs.lemmas.List.{length-take}
use Rattle.std.specs.Prelude.{◌&&◌}
use Rattle.std.specs.Str.{bytes_eq}
use Rattle.clock27.specs.Reference.{Reference}
use Rattle.ts_packet.specs.Views.{FieldView}
use Rattle.ts_packet.specs.Syntax.{IsAdaptation, IsAnnounced, IsField, IsReference}
use Rattle.ts_packet.specs.PcrBytes.{without_pcr, pcr_bytes, PcrBytesLaw}

bool_cases : (b : Bool) (P : Bool → Type 0) → P true → P false → P b
bool_cases true P t f = t
bool_cases false P t f = f

pub eq_parts : (a c b d : List ℕ) → length a ≡ length c → bytes_eq (a ++ b) (c ++ d) ≡ (bytes_eq a c && bytes_eq b d)
eq_parts [] [] b d h = refl
eq_parts [] (y ∷ c) b d h = absurd (omega arith)
eq_parts (x ∷ a) [] b d h = absurd (omega arith)
eq_parts (x ∷ a) (y ∷ c) b d h = let e = eq_parts a c b d (omega arith) in
    bool_cases (nat_eq x y) (λ t. (t && bytes_eq (a ++ b) (c ++ d)) ≡ ((t && bytes_eq a c) && bytes_eq b d)) e refl

pub eq_sizes : (a c : List ℕ) → (length a ≡ length c → ⊥) → bytes_eq a c ≡ false
eq_sizes [] [] h = absurd (h refl)
eq_sizes [] (y ∷ c) h = refl
eq_sizes (x ∷ a) [] h = refl
eq_sizes (x ∷ a) (y ∷ c) h = let e = eq_sizes a c (λ k. h (omega arith)) in
    bool_cases (nat_eq x y) (λ t. (t && bytes_eq a c) ≡ false) e refl

-- Both packets without the bytes of a program clock reference
pub pcr_apart : (xs ys : List ℕ) → length xs ≡ 188 → length ys ≡ 188
    → bytes_eq (without_pcr true xs) (without_pcr true ys) ≡ (bytes_eq (take 6 xs) (take 6 ys) && bytes_eq (drop 12 xs) (drop 12 ys))
unfolding without_pcr
pcr_apart xs ys h k = eq_parts (take 6 xs) (take 6 ys) (drop 12 xs) (drop 12 ys) (grind (arith, length-take))

-- One packet with the bytes of a program clock reference, and one packet without them
pub forms_differ : (p q : Bool) (xs ys : List ℕ) → length xs ≡ 188 → length ys ≡ 188 → (p ≡ q → ⊥) → bytes_eq (without_pcr p xs) (without_pcr q ys) ≡ false
unfolding without_pcr
forms_differ true true xs ys h k d = absurd (d refl)
forms_differ false false xs ys h k d = absurd (d refl)
forms_differ true false xs ys h k d =
    eq_sizes (take 6 xs ++ drop 12 xs) ys (λ e. absurd (grind (arith, length-append (take 6 xs) (drop 12 xs), length-take, length-drop 12 xs)))
forms_differ false true xs ys h k d =
    eq_sizes xs (take 6 ys ++ drop 12 ys) (λ e. absurd (grind (arith, length-append (take 6 ys) (drop 12 ys), length-take, length-drop 12 ys)))

-- The second six bytes, if the first six are `front`
middle : (front pcr tail : List ℕ) → length front ≡ 6 → length pcr ≡ 6 → pcr_bytes (front ++ (pcr ++ tail)) ≡ pcr
middle front pcr tail f p = ap (take 6) (drop_at front (pcr ++ tail) 6 f) ∙ take_at pcr tail 6 p

-- The reference follows the four bytes of the header, the length and the flags.
pcr_after_front : (bytes front field rest : List ℕ) (parts : FieldView) (pcr : Reference) → bytes ≡ front ++ (field ++ rest) → length front ≡ 4 →
    IsField field parts → parts.pcr ≡ Some pcr → IsReference (pcr_bytes bytes) pcr
pcr_after_front bytes front field rest parts pcr e n f h =
    let p = f.parted in
    let is : IsReference p.pcr pcr = subst (IsAnnounced IsReference p.pcr) h p.is_pcr in
    let more = p.opcr ++ (p.splice ++ (p.private ++ (p.extension ++ parts.stuffing))) in
    let head : List ℕ = front ++ (length f.body ∷ p.flags ∷ []) in
    let size : length head ≡ 6 = length-append front (length f.body ∷ p.flags ∷ []) ∙ ap (λ (k : ℕ). k + 2) n in
    let whole : field ≡ length f.body ∷ p.flags ∷ (p.pcr ++ more) = f.is ∙ ap (λ (b : List ℕ). length f.body ∷ b) p.is in
    let cut : bytes ≡ head ++ (p.pcr ++ (more ++ rest)) =
    e ∙ ap (λ (x : List ℕ). front ++ (x ++ rest)) whole
    ∙ ap (λ (x : List ℕ). front ++ (length f.body ∷ p.flags ∷ x)) (append_assoc p.pcr more rest)
    ∙ sym (append_assoc front (length f.body ∷ p.flags ∷ []) (p.pcr ++ (more ++ rest))) in
    subst (λ (x : List ℕ). IsReference x pcr) (sym (ap pcr_bytes cut ∙ middle head p.pcr (more ++ rest) size is.size)) is

pub pcr_in_bytes : PcrBytesLaw
pcr_in_bytes bytes packet parts pcr p a h =
    pcr_after_front bytes p.front p.field p.rest parts pcr p.is p.header.size (subst (IsAdaptation p.field) a p.adaptation) h
