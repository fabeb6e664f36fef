-- The programs of the EIT by their places among all programs.
use Rattle.std.proofs.Common.{◌≡◌, ℕ, zero, suc, ◌+◌, Bool, true, false, List, [], ◌∷◌, map, drop, filter, slice_get, Option, None, Some, option_map}
use Rattle.std.proofs.Common.{option_and_then, if◌then◌else◌, refl, ap, sym, ◌∙◌, arith}
use Rattle.description_parts.specs.Described.{Described}
use Rattle.description_parts.specs.Tables.{is_scheduled, scheduled_programs}
use Rattle.description.specs.SubTables.{places_where, scheduled_places}

-- A place is one more in the list with one element before.
later : {X : Type 0} (x : X) (xs : List X) (ps : List ℕ) (i : ℕ)
    → option_and_then (slice_get (x ∷ xs)) (slice_get (map suc ps) i) ≡ option_and_then (slice_get xs) (slice_get ps i)
later x xs [] i = refl
later x xs (p ∷ ps) zero = refl
later x xs (p ∷ ps) (suc i) = later x xs ps i

step : {X : Type 0} (b : Bool) (x : X) (xs found : List X) (ps : List ℕ) (i : ℕ)
    → ((j : ℕ) → slice_get found j ≡ option_and_then (slice_get xs) (slice_get ps j))
    → slice_get (if b then x ∷ found else found) i ≡ option_and_then (slice_get (x ∷ xs)) (slice_get (if b then 0 ∷ map suc ps else map suc ps) i)
step true x xs found ps zero h = refl
step true x xs found ps (suc i) h = h i ∙ sym (later x xs ps i)
step false x xs found ps i h = h i ∙ sym (later x xs ps i)

filtered : {X : Type 0} (test : X → Bool) (xs : List X) (i : ℕ) → slice_get (filter test xs) i ≡ option_and_then (slice_get xs) (slice_get (places_where test xs) i)
filtered test [] i = refl
filtered test (x ∷ xs) i = step (test x) x xs (filter test xs) (places_where test xs) i (filtered test xs)

-- The program at a place of the EIT is the one at its place among all.
pub placed : (d : Described) (i : ℕ) → slice_get (scheduled_programs d) i ≡ option_and_then (slice_get d.programs) (slice_get (scheduled_places d) i)
placed d i = filtered (is_scheduled d.has_eit) d.programs i

-- Each such place is of an element that passes.
in_rest : {X : Type 0} (test : X → Bool) (x : X) (xs : List X) (ps : List ℕ) (i k : ℕ)
    → ((j m : ℕ) → slice_get ps j ≡ Some m → option_map test (slice_get xs m) ≡ Some true)
    → slice_get (map suc ps) i ≡ Some k → option_map test (slice_get (x ∷ xs) k) ≡ Some true
in_rest test x xs [] i k h e = absurd (cc)
in_rest test x xs (p ∷ ps) zero k h e =
    let same : suc p ≡ k = cc in
    ap (λ (m : ℕ). option_map test (slice_get (x ∷ xs) m)) (sym same) ∙ h 0 p refl
in_rest test x xs (p ∷ ps) (suc i) k h e = in_rest test x xs ps i k (λ j m. h (suc j) m) e

passes_step : {X : Type 0} (test : X → Bool) (b : Bool) (x : X) (xs : List X) (ps : List ℕ) (i k : ℕ) → test x ≡ b
    → ((j m : ℕ) → slice_get ps j ≡ Some m → option_map test (slice_get xs m) ≡ Some true)
    → slice_get (if b then 0 ∷ map suc ps else map suc ps) i ≡ Some k → option_map test (slice_get (x ∷ xs) k) ≡ Some true
passes_step test true x xs ps zero k is h e = let same : 0 ≡ k = cc in ap (λ (m : ℕ). option_map test (slice_get (x ∷ xs) m)) (sym same) ∙ ap Some is
passes_step test true x xs ps (suc i) k is h e = in_rest test x xs ps i k h e
passes_step test false x xs ps i k is h e = in_rest test x xs ps i k h e

pub passes : {X : Type 0} (test : X → Bool) (xs : List X) (i k : ℕ) → slice_get (places_where test xs) i ≡ Some k → option_map test (slice_get xs k) ≡ Some true
passes test [] i k e = absurd (cc)
passes test (x ∷ xs) i k e = passes_step test (test x) x xs (places_where test xs) i k refl (passes test xs) e

-- The places from one element on
one_later : (ps : List ℕ) (i : ℕ) → slice_get (map suc ps) i ≡ option_map suc (slice_get ps i)
one_later [] i = refl
one_later (p ∷ ps) zero = refl
one_later (p ∷ ps) (suc i) = one_later ps i

place_next : {X : Type 0} (test : X → Bool) (xs : List X) (at n : ℕ) (x : X) → slice_get xs at ≡ Some x → test x ≡ true →
    slice_get (places_where test (drop at xs)) (suc n) ≡ option_map suc (slice_get (places_where test (drop (suc at) xs)) n)
place_next test [] at n x is e = absurd (cc)
place_next test (y ∷ ys) zero n x is e =
    let same : y ≡ x = cc in
    ap (λ (b : Bool). slice_get (if b then 0 ∷ map suc (places_where test ys) else map suc (places_where test ys)) (suc n)) (ap test same ∙ e)
    ∙ one_later (places_where test ys) n
place_next test (y ∷ ys) (suc at) n x is e = place_next test ys at n x is e

place_skip : {X : Type 0} (test : X → Bool) (xs : List X) (at n : ℕ) (x : X) → slice_get xs at ≡ Some x → test x ≡ false →
    slice_get (places_where test (drop at xs)) n ≡ option_map suc (slice_get (places_where test (drop (suc at) xs)) n)
place_skip test [] at n x is e = absurd (cc)
place_skip test (y ∷ ys) zero n x is e =
    let same : y ≡ x = cc in
    ap (λ (b : Bool). slice_get (if b then 0 ∷ map suc (places_where test ys) else map suc (places_where test ys)) n) (ap test same ∙ e)
    ∙ one_later (places_where test ys) n
place_skip test (y ∷ ys) (suc at) n x is e = place_skip test ys at n x is e

moved : (at : ℕ) (o : Option ℕ) → option_map (λ (k : ℕ). k + at) (option_map suc o) ≡ option_map (λ (k : ℕ). k + (at + 1)) o
moved at None = refl
moved at (Some k) = let is : suc k + at ≡ k + (at + 1) = omega arith in ap Some is

-- A loop over the elements has `left` places to go from the element `at` on.
pub next_place : {X : Type 0} (test : X → Bool) (xs : List X) (place at left n : ℕ) (x : X)
    → slice_get (places_where test xs) place ≡ option_map (λ (k : ℕ). k + at) (slice_get (places_where test (drop at xs)) left)
    → slice_get xs at ≡ Some x → test x ≡ true → left ≡ suc n
    → slice_get (places_where test xs) place ≡ option_map (λ (k : ℕ). k + (at + 1)) (slice_get (places_where test (drop (at + 1) xs)) n)
next_place test xs place at left n x so_far here passed on =
    let next = ap (slice_get (places_where test (drop at xs))) on ∙ place_next test xs at n x here passed in
    let step : suc at ≡ at + 1 = omega arith in
    so_far ∙ ap (option_map (λ (k : ℕ). k + at)) next ∙ moved at (slice_get (places_where test (drop (suc at) xs)) n)
    ∙ ap (λ (m : ℕ). option_map (λ (k : ℕ). k + (at + 1)) (slice_get (places_where test (drop m xs)) n)) step

pub skip_place : {X : Type 0} (test : X → Bool) (xs : List X) (place at left n : ℕ) (x : X)
    → slice_get (places_where test xs) place ≡ option_map (λ (k : ℕ). k + at) (slice_get (places_where test (drop at xs)) left)
    → slice_get xs at ≡ Some x → test x ≡ false → left ≡ n
    → slice_get (places_where test xs) place ≡ option_map (λ (k : ℕ). k + (at + 1)) (slice_get (places_where test (drop (at + 1) xs)) n)
skip_place test xs place at left n x so_far here failed on =
    let next = ap (slice_get (places_where test (drop at xs))) on ∙ place_skip test xs at n x here failed in
    let step : suc at ≡ at + 1 = omega arith in
    so_far ∙ ap (option_map (λ (k : ℕ). k + at)) next ∙ moved at (slice_get (places_where test (drop (suc at) xs)) n)
    ∙ ap (λ (m : ℕ). option_map (λ (k : ℕ). k + (at + 1)) (slice_get (places_where test (drop m xs)) n)) step
