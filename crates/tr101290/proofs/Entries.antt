-- The entry of a key has the places of the key's own sections.
use Rattle.std.proofs.Common.{◌≡◌, ◌∙◌, ℕ, ◌-◌, ◌*◌, ◌==◌, Bool, true, false, cond, nat_eq, nat_lt, List, [], ◌∷◌, filter, Option, Some, None, refl, ap, subst}
use Rattle.std.proofs.Common.{arith}
use Rattle.std.specs.Prelude.{max}
use Rattle.std.specs.Map.{lookup}
use Rattle.std.proofs.lemmas.Bool.Decides.{nat_tests}
use Rattle.std.proofs.Math.Nat.{lt_of_mul-lt-mul_right, mul-le-mul_right}
use Rattle.std.proofs.lemmas.Grind.{div_ceil_times}
use Rattle.indexmap.specs.IndexMap.{insert_entry}
use Rattle.tr101290.specs.declared.intervals.SectionBegin.{SectionBegin}
use Rattle.tr101290.specs.declared.intervals.SectionPlaces.{SectionPlaces}
use Rattle.tr101290.specs.Intervals.{part_key, part_places_at, parts_after, section_key, places_after, places_at}
use Rattle.tr101290.specs.IntervalLaws.{state_of, sections_of, sections_of_part, is_part, places_of, greatest_gap, EntryLaw, GreatestLaw, PartLaw, TimeLaw}

same_number : (a b : ℕ) → (a == b) ≡ true → a ≡ b
same_number a b e = grind (arith, nat_tests)

turned_test : (a b : ℕ) → (a == b) ≡ (b == a)
turned_test a b = by (a == b) (b == a) refl refl
  where
    by : (s t : Bool) → (a == b) ≡ s → (b == a) ≡ t → s ≡ t
    by true true p q = refl
    by false false p q = refl
    by true false p q = absurd (grind (arith, nat_tests))
    by false true p q = absurd (grind (arith, nat_tests))

-- The entry of a key after an insert for key k
found : (key k : ℕ) (x : SectionPlaces) (es : List (ℕ × SectionPlaces)) (t : Bool) → (k == key) ≡ t →
    lookup (nat_eq key) (insert_entry nat_eq es k x) ≡ cond t (Some x) (lookup (nat_eq key) es)
found key k x [] t e = rw (turned_test key k ∙ e) refl
found key k x (y ∷ es) t e = by t e (k == y.0) refl (found key k x es t e)
  where
    by : (t : Bool) → (k == key) ≡ t → (u : Bool) → (k == y.0) ≡ u →
        lookup (nat_eq key) (insert_entry nat_eq es k x) ≡ cond t (Some x) (lookup (nat_eq key) es) →
        lookup (nat_eq key) (cond u ((y.0, x) ∷ es) (y ∷ insert_entry nat_eq es k x)) ≡ cond t (Some x)
        (cond (nat_eq key y.0) (Some y.1) (lookup (nat_eq key) es))
    by true e true f h = let g : (key == y.0) ≡ true = subst (λ (n : ℕ). (n == y.0) ≡ true) (same_number k key e) f in rw g refl
    by false e true f h = let g : (key == y.0) ≡ false = subst (λ (n : ℕ). (key == n) ≡ false) (same_number k y.0 f) (turned_test key k ∙ e) in rw g refl
    by true e false f h = let g : (key == y.0) ≡ false = subst (λ (n : ℕ). (n == y.0) ≡ false) (same_number k key e) f in rw g h
    by false e false f h = ap (λ (o : Option SectionPlaces). cond (nat_eq key y.0) (Some y.1) o) h

pub entry_law : EntryLaw
unfolding state_of places_of
entry_law timing key [] = refl
entry_law timing key (s ∷ earlier) =
    found key (section_key s) (places_after (places_at (state_of timing earlier) (section_key s)) s) (state_of timing earlier).entries (section_key s == key)
    refl
    ∙ by (section_key s == key) refl (entry_law timing key earlier)
  where
    by : (t : Bool) → (section_key s == key) ≡ t → places_at (state_of timing earlier) key ≡ places_of (sections_of key earlier) →
        cond t (Some (places_after (places_at (state_of timing earlier) (section_key s)) s)) (places_at (state_of timing earlier) key)
        ≡ places_of (cond t (s ∷ filter (λ s. section_key s == key) earlier) (filter (λ s. section_key s == key) earlier))
    by true e rest =
        ap (λ (k : ℕ). Some (places_after (places_at (state_of timing earlier) k) s)) (same_number (section_key s) key e)
        ∙ ap (λ (before : Option SectionPlaces). Some (places_after before s)) rest
    by false e rest = rest

pub part_law : PartLaw
unfolding state_of places_of parts_after is_part
part_law timing key [] = refl
part_law timing key (s ∷ earlier) = by s.part (part_law timing key earlier)
  where
    test : (p : ℕ) (t : Bool) → (part_key s p == key) ≡ t → part_places_at (state_of timing earlier) key ≡ places_of (sections_of_part key earlier) →
        cond t (Some (places_after (part_places_at (state_of timing earlier) (part_key s p)) s)) (part_places_at (state_of timing earlier) key)
        ≡ places_of (cond t (s ∷ sections_of_part key earlier) (sections_of_part key earlier))
    test p true e rest =
        ap (λ (k : ℕ). Some (places_after (part_places_at (state_of timing earlier) k) s)) (same_number (part_key s p) key e)
        ∙ ap (λ (before : Option SectionPlaces). Some (places_after before s)) rest
    test p false e rest = rest

    by : (part : Option ℕ) → part_places_at (state_of timing earlier) key ≡ places_of (sections_of_part key earlier) →
        lookup (nat_eq key) (parts_after (state_of timing earlier) s part) ≡ places_of
        (cond (is_part key s part) (s ∷ sections_of_part key earlier) (sections_of_part key earlier))
    by None rest = rest
    by (Some p) rest =
        found key (part_key s p) (places_after (part_places_at (state_of timing earlier) (part_key s p)) s) (state_of timing earlier).parts
        (part_key s p == key) refl
        ∙ test p (part_key s p == key) refl rest

-- The greater of two numbers
greater : (a b : ℕ) → cond (nat_lt a b) b a ≡ max b a
greater a b = by (nat_lt a b) refl
  where
    by : (t : Bool) → nat_lt a b ≡ t → cond t b a ≡ max b a
    by true e = grind (arith, nat_tests)
    by false e = grind (arith, nat_tests)

step : (p : SectionPlaces) (section : SectionBegin) (before gap : ℕ) → p.greatest ≡ gap → p.last ≡ before →
    (places_after (Some p) section).greatest ≡ max (section.place - before) gap
unfolding places_after
step p section before gap g l = rw (g, l) (greater gap (section.place - before))

pub greatest_law : GreatestLaw
unfolding places_of greatest_gap places_after
greatest_law section [] = (refl, refl)
greatest_law section (before ∷ earlier) =
    let h = greatest_law before earlier in
    (step (places_after (places_of earlier) before) section before.place (greatest_gap (before ∷ earlier)) h.0 h.1, refl)

pub time_law : TimeLaw
time_law rate packets limit some = (
  λ more. let m = mul-le-mul_right rate more in omega (arith, (div_ceil_times (packets * 40608000000) rate some).1, m),
  λ more. lt_of_mul-lt-mul_right rate (omega (arith, more, (div_ceil_times (packets * 40608000000) rate some).0)),
)
