-- The number of times a number is in a list; no PID is twice among the PIDs of an output.
use Rattle.std.proofs.Common.{◌≡◌, ◌⊎◌, ℕ, zero, suc, ◌+◌, ◌<◌, ◌≤◌, ◌==◌, nat_eq, nat_lt, Bool, true, false, cond, List, [], ◌∷◌, ◌++◌, length, map, slice_get}
use Rattle.std.proofs.Common.{Option, None, Some, find, position, flat_map, refl, ap, ◌∙◌, arith, sum_by, All, inl, inr, eq-eqb}
use Rattle.std.specs.Option.{option_to_list}
use Rattle.std.proofs.lemmas.Bool.{and_parts, cases_lt, eqb-true, ltb-true, ne_eqb, cases_Bool}
use Rattle.std.proofs.lemmas.Bool.Decides.{nat_tests}
use Rattle.std.proofs.lemmas.List.Folds.{find_at}
use Rattle.std.proofs.lemmas.Option.{slice_get_past}
use Rattle.std.proofs.lemmas.List.Sums.{sum_by-cons, sum_by-append}
use Rattle.std.proofs.lemmas.List.Elements.{All-head, All-tail}
use Rattle.std.proofs.lemmas.Map.Keys.{IsDistinct-head, IsDistinct-tail}
use Rattle.std.specs.List.{IsDistinct, AllByRecursion, list_all, position_or_len}
use Rattle.description_parts.specs.Ranges.{IsPid}

-- The number of times x is in the list
unfoldable pub times : ℕ → List ℕ → ℕ
times x ys = sum_by (λ y. cond (x == y) 1 0) ys

pub times-append : (x : ℕ) (ys zs : List ℕ) → times x (ys ++ zs) ≡ times x ys + times x zs
unfolding times
times-append x ys zs = sum_by-append (λ y. cond (x == y) 1 0) ys zs

times-cons : (x y : ℕ) (ys : List ℕ) → times x (y ∷ ys) ≡ cond (x == y) 1 0 + times x ys
unfolding times
times-cons x y ys = sum_by-cons (λ y. cond (x == y) 1 0) y ys

here : (x y : ℕ) (ys : List ℕ) → x ≡ y → times x (y ∷ ys) ≡ 1 + times x ys
here x y ys e = times-cons x y ys ∙ ap (λ (b : Bool). cond {A = ℕ} b 1 0 + times x ys) (eq-eqb x y e)

not_here : (x y : ℕ) (ys : List ℕ) → (x == y) ≡ false → times x (y ∷ ys) ≡ times x ys
not_here x y ys n = let z : cond {A = ℕ} false 1 0 + times x ys ≡ times x ys =
    omega arith in times-cons x y ys ∙ ap (λ (b : Bool). cond {A = ℕ} b 1 0 + times x ys) n ∙ z

-- The PIDs of a list whose entries may have none
abbrev pub present : List (Option ℕ) → List ℕ
present os = flat_map option_to_list os

pub present-map : {X : Type 0} (f : X → ℕ) (es : List X) → present (map (λ e. Some (f e)) es) ≡ map f es
present-map f [] = refl
present-map f (e ∷ es) = ap (λ (ys : List ℕ). f e ∷ ys) (present-map f es)

-- If x is at some place of the list, it is there at least once.
pub some_times : (x : ℕ) (os : List (Option ℕ)) (i : ℕ) → slice_get os i ≡ Some (Some x) → 0 < times x (present os)
some_times x [] i e = absurd (cc)
some_times x (None ∷ os) zero e = absurd (cc)
some_times x (None ∷ os) (suc i) e = some_times x os i e
some_times x (Some y ∷ os) zero e = let same : x ≡ y = cc in omega (arith, here x y (present os) same)
some_times x (Some y ∷ os) (suc i) e = omega (arith, times-cons x y (present os), some_times x os i e)

-- If x is at two places of the list, it is there at least twice.
pub two_times : (x : ℕ) (os : List (Option ℕ)) (i j : ℕ) → i < j → slice_get os i ≡ Some (Some x) → slice_get os j ≡ Some (Some x) →
    1 < times x (present os)
two_times x [] i j lt e f = absurd (cc)
two_times x (o ∷ os) i zero lt e f = absurd (omega (arith, lt))
two_times x (None ∷ os) zero (suc j) lt e f = absurd (cc)
two_times x (None ∷ os) (suc i) (suc j) lt e f = two_times x os i j (omega (arith, lt)) e f
two_times x (Some y ∷ os) zero (suc j) lt e f = let same : x ≡ y = cc in omega (arith, here x y (present os) same, some_times x os j f)
two_times x (Some y ∷ os) (suc i) (suc j) lt e f =
    omega (arith, times-cons x y (present os), two_times x os i j (omega (arith, lt)) e f)

-- In a list of distinct numbers each number occurs at most once.
absent : (x y : ℕ) (ys : List ℕ) → x ≡ y → AllByRecursion (λ z. nat_eq y z ≡ false) ys → times x ys ≡ 0
unfolding times
absent x y [] same h = refl
absent x y (z ∷ zs) same h = let other : (x == z) ≡ false = rw same h.0 in not_here x z zs other ∙ absent x y zs same h.1

pub at_most_once : (x : ℕ) (ys : List ℕ) → IsDistinct nat_eq ys → times x ys ≤ 1
unfolding times
at_most_once x [] h = omega arith
at_most_once x (y ∷ ys) h = elim (cases_Bool (x == y)) [
  | inl e ↦ omega (arith, here x y ys (eqb-true x y e), absent x y ys (eqb-true x y e) (IsDistinct-head nat_eq y ys h))
  | inr n ↦ omega (arith, not_here x y ys n, at_most_once x ys (IsDistinct-tail nat_eq y ys h))
]

-- If all numbers of the list are below 32, a greater number is not there.
pub none_low : (x : ℕ) (ys : List ℕ) → list_all (λ y. nat_lt y 32) ys ≡ true → 32 ≤ x → times x ys ≡ 0
unfolding times
none_low x [] h le = refl
none_low x (y ∷ ys) h le =
    let parts = and_parts (nat_lt y 32) (list_all (λ y. nat_lt y 32) ys) h in
    let low : y < 32 = ltb-true y 32 parts.0 in
    not_here x y ys (ne_eqb x y (λ e. omega (arith, e, low, le))) ∙ none_low x ys parts.1 le

-- A number that cannot be a PID of a description is not among its PIDs.
pub none_outside : {X : Type 0} (f : X → ℕ) (x : ℕ) (es : List X) → (x < 32) ⊎ (8190 < x) → All (λ e. IsPid (f e)) es → times x (map f es) ≡ 0
unfolding times
none_outside f x [] out h = refl
none_outside f x (e ∷ es) out h =
    let is = All-head (λ e. IsPid (f e)) e es h in
    let other : x ≡ f e → ⊥ = elim out [ inl low ↦ (λ same. omega (arith, same, low, is.low)) | inr high ↦ (λ same. omega (arith, same, high, is.high)) ] in
    not_here x (f e) (map f es) (ne_eqb x (f e) other) ∙ none_outside f x es out (All-tail (λ e. IsPid (f e)) e es h)

-- An element that has no place is not found.
pub missed : {X : Type 0} (p : X → Bool) (xs : List X) → position p xs ≡ None → find p xs ≡ None
missed p xs h = elim (cases_lt (position_or_len p xs) (length xs)) [
  | inl within ↦ absurd (grind (arith, nat_tests, within, h))
  | inr past ↦ find_at p xs ∙ slice_get_past xs (position_or_len p xs) past
]
