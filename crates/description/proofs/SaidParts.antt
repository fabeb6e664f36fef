-- Tables that are said of parts, one after another, and read again.
use Rattle.std.proofs.Common.{◌≡◌, ℕ, zero, suc, ◌+◌, List, [], ◌∷◌, ◌++◌, length, map, flat_map, slice_get, Option, Some, Result, Ok, All}
use Rattle.std.proofs.Common.{refl, ap, ap₂, sym, subst, ◌∙◌, arith, append-nil}
use Rattle.std.proofs.lemmas.List.{map-append}
use Rattle.std.proofs.lemmas.List.Elements.{All-nil, All-cons, All-head, All-tail}
use Rattle.bit_fields.specs.Reading.{◌>>=◌}
use Rattle.psi_tables.specs.Encoding.{IsWritable, section_bytes}
use Rattle.psi_tables.specs.Reading.{section_at}
use Rattle.psi_tables.specs.Views.{SectionView}
use Rattle.psi_tables.specs.declared.error.SectionError.{SectionError}
use Rattle.psi_tables.proofs.SectionWritten.{written}

-- What is said of each part, from number n on
abbrev pub said : {P T : Type 0} → (ℕ → P → T) → ℕ → List P → List T
said say n [] = []
said say n (p ∷ ps) = say n p ∷ said say (n + 1) ps

pub length_said : {P T : Type 0} (say : ℕ → P → T) (n : ℕ) (ps : List P) → length (said say n ps) ≡ length ps
length_said say n [] = refl
length_said say n (p ∷ ps) = ap suc (length_said say (n + 1) ps)

-- A table is said of the part of its number.
pub record IsSaid {P T : Type 0} (say : ℕ → P → T) (number : ℕ) (o : Option P) (t : T) : Type 0 where
  pub part : P
  pub at : o ≡ Some part
  pub is : say number part ≡ t

said_from : {P T : Type 0} (say : ℕ → P → T) (n : ℕ) (ps : List P) (j : ℕ) (t : T) → slice_get (said say n ps) j ≡ Some t → IsSaid say (n + j) (slice_get ps j) t
said_from say n [] j t e = absurd (cc)
said_from say n (p ∷ ps) zero t e =
    let same : say n p ≡ t = cc in
    let on : n + 0 ≡ n = omega arith in
    record { part = p; at = refl; is = ap (λ (k : ℕ). say k p) on ∙ same }
said_from say n (p ∷ ps) (suc j) t e =
    let on : n + 1 + j ≡ n + suc j = omega arith in
    subst (λ (k : ℕ). IsSaid say k (slice_get ps j) t) on (said_from say (n + 1) ps j t e)

pub said_at : {P T : Type 0} (say : ℕ → P → T) (ps : List P) (j : ℕ) (t : T) → slice_get (said say 0 ps) j ≡ Some t → IsSaid say j (slice_get ps j) t
said_at say ps j t e =
    let on : 0 + j ≡ j = omega arith in
    subst (λ (k : ℕ). IsSaid say k (slice_get ps j) t) on (said_from say 0 ps j t e)

-- The entries of all tables are those of all parts.
pub joined : {X Y T : Type 0} (say : ℕ → List X → T) (entries : T → List Y) (f : X → Y) (n : ℕ) (parts : List (List X))
    → ((k : ℕ) (part : List X) → entries (say k part) ≡ map f part)
    → flat_map entries (said say n parts) ≡ map f (flat_map (λ part. part) parts)
joined say entries f n [] each = refl
joined say entries f n (part ∷ parts) each =
    ap₂ (λ xs ys. xs ++ ys) (each n part) (joined say entries f (n + 1) parts each) ∙ sym (map-append f part (flat_map (λ p. p) parts))

-- What all entries satisfy, the entries of each part satisfy.
front : {X : Type 0} (P : X → Type 0) (xs ys : List X) → All P (xs ++ ys) → All P xs
front P [] ys h = All-nil P
front P (x ∷ xs) ys h = All-cons P x xs (All-head P x (xs ++ ys) h) (front P xs ys (All-tail P x (xs ++ ys) h))

back : {X : Type 0} (P : X → Type 0) (xs ys : List X) → All P (xs ++ ys) → All P ys
back P [] ys h = h
back P (x ∷ xs) ys h = back P xs ys (All-tail P x (xs ++ ys) h)

pub each_part : {X : Type 0} (P : X → Type 0) (parts : List (List X)) → All P (flat_map (λ part. part) parts) → All (All P) parts
each_part P [] h = All-nil (All P)
each_part P (part ∷ parts) h =
    All-cons (All P) part parts (front P part (flat_map (λ p. p) parts) h) (each_part P parts (back P part (flat_map (λ p. p) parts) h))

-- A section that can be written is read as the same table.
pub read_again : {T : Type 0} (s : SectionView) (reader : SectionView → Result T SectionError) (t : T) → IsWritable s → reader s ≡ Ok t →
    (section_at (section_bytes s) >>= λ found. reader found.0) ≡ Ok t
read_again s reader t writable is =
    let whole = append-nil (section_bytes s) in
    let found : section_at (section_bytes s) ≡ Ok (s, length (section_bytes s)) = ap section_at (sym whole) ∙ (written s writable).read [] in
    ap (λ (r : _). r >>= λ section. reader section.0) found ∙ is
