-- A packet is late if and only if its event is not the first and no earlier event is within the limit before it.
use Rattle.std.proofs.Common.{◌≡◌, inl, inr, ⊎_elim, ℕ, zero, suc, ◌-◌, ◌*◌, ◌<◌, Bool, true, false, cond, List, [], ◌∷◌, ◌++◌, Some, None, refl, sym}
use Rattle.std.proofs.Common.{subst, arith}
use Rattle.std.specs.Prelude.{nat_lt}
use Rattle.std.specs.List.{Contains}
use Rattle.std.proofs.lemmas.Bool.Decides.{nat_tests}
use Rattle.monitor.specs.Gaps.{is_long, late}
use Rattle.monitor.proofs.LateFaults.{within}
use Rattle.monitor.proofs.LatePlaces.{after, after_all, step}
use Rattle.laws_view.specs.References.{ComesLate}
use Rattle.laws_view.proofs.PlaceOrder.{Increasing, Over}

no_false : true ≡ false → ⊥
no_false e = grind arith

-- 1. Members of a list

pub within_of : (n : ℕ) (xs : List ℕ) → Contains xs n → within n xs
within_of n [] c = absurd (omega (arith, c.1))
within_of n (x ∷ xs) (zero, k, e) = inl (sym e)
within_of n (x ∷ xs) (suc i, k, e) = inr (within_of n xs (i, omega (arith, k), e))

pub contains_of : (n : ℕ) (xs : List ℕ) → within n xs → Contains xs n
contains_of n [] h = absurd h
contains_of n (x ∷ xs) (inl e) = (zero, omega arith, sym e)
contains_of n (x ∷ xs) (inr h) = let c = contains_of n xs h in (suc c.0, omega (arith, c.1), c.2)

within_append : (n : ℕ) (xs ys : List ℕ) → within n ys → within n (xs ++ ys)
within_append n [] ys h = h
within_append n (x ∷ xs) ys h = inr (within_append n xs ys h)

over_is : (b n : ℕ) (xs : List ℕ) → Over b xs → within n xs → b < n
over_is b n [] h w = absurd w
over_is b n (x ∷ xs) h (inl e) = subst (λ (k : ℕ). b < k) (sym e) h.0
over_is b n (x ∷ xs) h (inr w) = over_is b n xs h.1 w

over_less : (a b : ℕ) (xs : List ℕ) → a < b → Over b xs → Over a xs
over_less a b [] l h = tt
over_less a b (x ∷ xs) l h = (omega (arith, l, h.0), over_less a b xs l h.1)

-- 2. Late packets after an event

longer : (l a b n : ℕ) → a < b → b < n → l < (n - b) * 1504000 → l < (n - a) * 1504000
longer l a b n h k g = omega (arith, h, k, g)

record LateAfter (l b : ℕ) (xs : List ℕ) (n : ℕ) : Type 0 where
  comes : within n xs
  gap : (m : ℕ) → within m (b ∷ xs) → m < n → l < (n - m) * 1504000

-- A late packet is over the limit after every event before it.
late_after : (l b n : ℕ) (xs : List ℕ) → Over b xs → Increasing xs → within n (after l (Some b) xs) → LateAfter l b xs n
late_after l b n [] o i w = absurd w
late_after l b n (x ∷ xs) o i w = by (λ v. late_after l x n xs i.0 i.1 v) (is_long l (x - b)) refl w
  where
    here : nat_lt l ((x - b) * 1504000) ≡ true → n ≡ x → LateAfter l b (x ∷ xs) n
    here e s = record {
      comes = inl s;
      gap = λ m h k. ⊎_elim
          (λ t. let long : l < (x - b) * 1504000 = grind (arith, nat_tests) in
          subst (λ (q : ℕ). l < (n - q) * 1504000) (sym t) (subst (λ (q : ℕ). l < (q - b) * 1504000) (sym s) long))
          (λ v. ⊎_elim
          (λ t. let no : x < x = subst (λ (q : ℕ). q < x) t (subst (λ (q : ℕ). m < q) s k) in absurd (omega (arith, no)))
          (λ u. let more : x < m = over_is x m xs i.0 u in absurd (omega (arith, more, k, s))) v) h;
    }

    there : LateAfter l x xs n → LateAfter l b (x ∷ xs) n
    there r =
        let more : x < n = over_is x n xs i.0 r.comes in
        record {
          comes = inr r.comes;
          gap = λ m h k. ⊎_elim
              (λ t. subst (λ (q : ℕ). l < (n - q) * 1504000) (sym t) (longer l b x n o.0 more (r.gap x (inl refl) more)))
              (λ u. r.gap m u k) h;
        }

    by : (within n (after l (Some x) xs) → LateAfter l x xs n) → (t : Bool) → is_long l (x - b) ≡ t →
        within n (cond t (x ∷ []) [] ++ after l (Some x) xs) → LateAfter l b (x ∷ xs) n
    by later true e (inl s) = here e s
    by later true e (inr v) = there (later v)
    by later false e v = there (later v)

-- A packet that is over the limit after every event before it is late.
is_late : (l b n : ℕ) (xs : List ℕ) → Over b xs → Increasing xs → LateAfter l b xs n → within n (after l (Some b) xs)
is_late l b n [] o i h = absurd h.comes
is_late l b n (x ∷ xs) o i h =
    ⊎_elim here
    (λ w. within_append n (step l (Some b) x) (after l (Some x) xs)
    (is_late l x n xs i.0 i.1 (record { comes = w; gap = λ m v k. h.gap m (inr v) k }))) h.comes
  where
    here : n ≡ x → within n (step l (Some b) x ++ after l (Some x) xs)
    here s = by (is_long l (x - b)) refl
      where
        by : (t : Bool) → is_long l (x - b) ≡ t → within n (cond t (x ∷ []) [] ++ after l (Some x) xs)
        by true e = inl s
        by false e =
            let first : b < n = subst (λ (q : ℕ). b < q) (sym s) o.0 in
            let long : l < (n - b) * 1504000 = h.gap b (inl refl) first in
            let same : l < (x - b) * 1504000 = subst (λ (q : ℕ). l < (q - b) * 1504000) s long in
            absurd (grind (arith, nat_tests))

-- 3. Late packets of a whole list

of_late : (l n : ℕ) (xs : List ℕ) → Increasing xs → within n (after l None xs) →
    within n xs × ((m : ℕ) × within m xs × (m < n)) × ((m : ℕ) → within m xs → m < n → l < (n - m) * 1504000)
of_late l n [] i w = absurd w
of_late l n (x ∷ xs) i w =
    let r = late_after l x n xs i.0 i.1 w in (inr r.comes, (x, inl refl, over_is x n xs i.0 r.comes), r.gap)

to_late : (l n : ℕ) (xs : List ℕ) → Increasing xs → within n xs → ((m : ℕ) × within m xs × (m < n)) →
    ((m : ℕ) → within m xs → m < n → l < (n - m) * 1504000) → within n (after l None xs)
to_late l n [] i w b g = absurd w
to_late l n (x ∷ xs) i (inl e) b g = absurd (⊎_elim
    (λ t. let k = b.2 in omega (arith, t, e, k))
    (λ u. let more : x < b.0 = over_is x b.0 xs i.0 u in let k = b.2 in omega (arith, more, e, k)) b.1)
to_late l n (x ∷ xs) i (inr w) b g = is_late l x n xs i.0 i.1 (record { comes = w; gap = g })

pub late_comes : (rate limit n : ℕ) (xs : List ℕ) → Increasing xs → within n (late rate limit xs) → ComesLate rate limit xs n
late_comes rate limit n xs i w =
    let r = of_late (limit * rate) n xs i (subst (within n) (sym (after_all rate limit xs)) w) in
    record {
      comes = contains_of n xs r.0;
      not_first = (r.1.0, contains_of r.1.0 xs r.1.1, r.1.2);
      none_within = λ m c k. r.2 m (within_of m xs c) k;
    }

pub comes_late : (rate limit n : ℕ) (xs : List ℕ) → Increasing xs → ComesLate rate limit xs n → within n (late rate limit xs)
comes_late rate limit n xs i h =
    let b = h.not_first in
    subst (within n) (after_all rate limit xs) (to_late (limit * rate) n xs i (within_of n xs h.comes) (b.0, within_of b.0 xs b.1, b.2)
    (λ m w k. h.none_within m (contains_of m xs w) k))
