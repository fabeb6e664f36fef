-- Entries of maps and elements of lists
use Rattle.std.proofs.Common.{◌≡◌, ◌∙◌, sym, ℕ, zero, suc, ◌⊎◌, cond, Bool, true, false, List, [], ◌∷◌, ◌++◌, length, Option, Some, refl, ap, inl, inr, nat_eq}
use Rattle.std.specs.Prelude.{set, slice_get}
use Rattle.std.specs.Map.{lookup}
use Rattle.std.proofs.lemmas.Bool.{eq-eqb}
use Rattle.std.proofs.lemmas.Bool.Decides.{eqb_tells}
use Rattle.indexmap.specs.IndexMap.{insert_entry}

pub some_is : {A : Type 0} (a b : A) → Some a ≡ Some b → a ≡ b
some_is a b e = cc

pub itself : (a : ℕ) → nat_eq a a ≡ true
itself a = eq-eqb a a refl

pub apart : (a b : ℕ) → (a ≡ b → ⊥) → nat_eq a b ≡ false
apart a b f = elim (eqb_tells a b) [
  | inl same ↦ absurd (f same.1)
  | inr other ↦ other.0
]

-- An inserted entry is found, and no other entry changes.
pub lookup_same : {X : Type 0} (es : List (ℕ × X)) (k : ℕ) (v : X) → lookup (nat_eq k) (insert_entry nat_eq es k v) ≡ Some v
lookup_same [] k v = rw (itself k) refl
lookup_same (e ∷ es) k v = by (nat_eq k e.0) refl (lookup_same es k v)
  where
    by : (b : Bool) → nat_eq k e.0 ≡ b → lookup (nat_eq k) (insert_entry nat_eq es k v) ≡ Some v → lookup (nat_eq k) (insert_entry nat_eq (e ∷ es) k v) ≡ Some v
    by true h rest = rw h (rw h refl)
    by false h rest = rw h (rw h rest)

pub lookup_other : {X : Type 0} (es : List (ℕ × X)) (k q : ℕ) (v : X) → (k ≡ q → ⊥) → lookup (nat_eq q) (insert_entry nat_eq es k v) ≡ lookup (nat_eq q) es
lookup_other {X = X} [] k q v f = rw (apart q k (λ e. f (sym e))) refl
lookup_other {X = X} (e ∷ es) k q v f = elim (eqb_tells k e.0) [
  | inl same ↦ let no : nat_eq q e.0 ≡ false = apart q e.0 (λ p. f (same.1 ∙ sym p)) in rw same.0 (rw no refl)
  | inr other ↦ rw other.0 (ap (λ (o : Option X). cond (nat_eq q e.0) (Some e.1) o) (lookup_other es k q v f))
]

-- Elements of lists
pub set_same : {A : Type 0} (xs : List A) (i : ℕ) (x y : A) → slice_get xs i ≡ Some x → slice_get (set xs i y) i ≡ Some y
set_same [] i x y e = absurd (let no : ⊥ = cc in no)
set_same (z ∷ xs) zero x y e = refl
set_same (z ∷ xs) (suc i) x y e = set_same xs i x y e

pub set_other : {A : Type 0} (xs : List A) (i j : ℕ) (y : A) → (i ≡ j → ⊥) → slice_get (set xs i y) j ≡ slice_get xs j
set_other [] i j y f = refl
set_other (z ∷ xs) zero zero y f = absurd (f refl)
set_other (z ∷ xs) zero (suc j) y f = refl
set_other (z ∷ xs) (suc i) zero y f = refl
set_other (z ∷ xs) (suc i) (suc j) y f = set_other xs i j y (λ e. f (ap suc e))

pub get_first : {A : Type 0} (xs ys : List A) (i : ℕ) (x : A) → slice_get xs i ≡ Some x → slice_get (xs ++ ys) i ≡ Some x
get_first [] ys i x e = absurd (let no : ⊥ = cc in no)
get_first (z ∷ xs) ys zero x e = e
get_first (z ∷ xs) ys (suc i) x e = get_first xs ys i x e

pub get_last : {A : Type 0} (xs : List A) (y : A) → slice_get (xs ++ y ∷ []) (length xs) ≡ Some y
get_last [] y = refl
get_last (z ∷ xs) y = get_last xs y

pub get_either : {A : Type 0} (xs : List A) (y : A) (i : ℕ) (x : A) → slice_get (xs ++ y ∷ []) i ≡ Some x →
    (slice_get xs i ≡ Some x) ⊎ ((i ≡ length xs) × (y ≡ x))
get_either [] y zero x e = inr (refl, some_is y x e)
get_either [] y (suc i) x e = absurd (let no : ⊥ = cc in no)
get_either (z ∷ xs) y zero x e = inl e
get_either (z ∷ xs) y (suc i) x e = elim (get_either xs y i x e) [
  | inl is ↦ inl is
  | inr last ↦ inr (ap suc last.0, last.1)
]
