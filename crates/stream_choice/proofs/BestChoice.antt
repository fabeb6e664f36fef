-- The best of the choices that are tried, one more at a time
use Rattle.std.proofs.Common.{◌≡◌, ℕ, zero, suc, ◌+◌, ◌<◌, ◌≤◌, ◌⊎◌, Bool, true, false, Option, Some, None, refl, sym, ◌∙◌, inl, inr, arith, add-one}
use Rattle.std.specs.Prelude.{IfSome, nat_lt, if◌then◌else◌, ⊤}
use Rattle.std.proofs.lemmas.Bool.{cases_eq, ltb-true, ltb-false}
use Rattle.stream_choice.specs.declared.choice.Choice.{Choice}
use Rattle.stream_choice.specs.Choices.{rank, better, best}

pub best_none : (f : ℕ → Option Choice) → best 0 f ≡ None
unfolding best
best_none f = refl

pub best_next : (n : ℕ) (f : ℕ → Option Choice) → best (suc n) f ≡ better (best n f) (f n)
unfolding best
best_next n f = refl

pub best_more : (n : ℕ) (f : ℕ → Option Choice) → best (n + 1) f ≡ better (best n f) (f n)
best_more n f = rw (add-one n) (best_next n f)

-- An order of choices

-- The first choice ranks no lower than the second; `None` ranks lowest.
pub Precedes : Option Choice → Option Choice → Type 0
Precedes None None = ⊤
Precedes None (Some d) = ⊥
Precedes (Some c) None = ⊤
Precedes (Some c) (Some d) = rank c ≤ rank d

itself : (o : Option Choice) → Precedes o o
unfolding Precedes
itself None = _
itself (Some c) = omega arith

pub along : (a b c : Option Choice) → Precedes a b → Precedes b c → Precedes a c
unfolding Precedes
along None None None p q = _
along None None (Some z) p q = q
along None (Some y) c p q = absurd p
along (Some x) None None p q = _
along (Some x) None (Some z) p q = absurd q
along (Some x) (Some y) None p q = _
along (Some x) (Some y) (Some z) p q = omega (arith, p, q)

first_precedes : (a b : Option Choice) → Precedes (better a b) a
unfolding Precedes
first_precedes None None = _
first_precedes None (Some d) = _
first_precedes (Some c) None = omega arith
first_precedes (Some c) (Some d) = step (nat_lt (rank d) (rank c)) (λ yes. ltb-true (rank d) (rank c) yes)
  where
    step : (b : Bool) → (b ≡ true → rank d < rank c) → Precedes (if b then Some d else Some c) (Some c)
    step true lt = omega (arith, lt refl)
    step false lt = omega arith

second_precedes : (a b : Option Choice) → Precedes (better a b) b
unfolding Precedes
second_precedes None b = itself b
second_precedes (Some c) None = _
second_precedes (Some c) (Some d) = step (nat_lt (rank d) (rank c)) (λ no. ltb-false (rank d) (rank c) no)
  where
    step : (b : Bool) → (b ≡ false → rank c ≤ rank d) → Precedes (if b then Some d else Some c) (Some d)
    step true le = omega arith
    step false le = le refl

-- No choice of the list ranks before the best.
pub best_precedes : (n : ℕ) (f : ℕ → Option Choice) (i : ℕ) → i < n → Precedes (best n f) (f i)
best_precedes zero f i lt = absurd (omega (arith, lt))
best_precedes (suc n) f i lt = rw (best_next n f) (elim (cases_eq i n) [
  | inl e ↦ rw e (second_precedes (best n f) (f n))
  | inr d ↦ along (better (best n f) (f n)) (best n f) (f i) (first_precedes (best n f) (f n)) (best_precedes n f i (omega (arith, lt, d)))
])

pub not_better : (o : Option Choice) (c : Choice) → Precedes (Some c) o → IfSome o (λ d. rank c ≤ rank d)
unfolding Precedes
not_better None c p = _
not_better (Some d) c p = p

pub nothing_left : (o : Option Choice) → Precedes None o → o ≡ None
unfolding Precedes
nothing_left None p = refl
nothing_left (Some d) p = absurd p

-- The place where the best choice is found

pub record Found (n : ℕ) (f : ℕ → Option Choice) (c : Choice) : Type 0 where
  pub at : ℕ
  pub below : at < n
  pub same : f at ≡ Some c

one_of : (a b : Option Choice) (c : Choice) → better a b ≡ Some c → (a ≡ Some c) ⊎ (b ≡ Some c)
one_of None b c e = inr e
one_of (Some x) None c e = inl e
one_of (Some x) (Some y) c e = step (nat_lt (rank y) (rank x)) e
  where
    step : (b : Bool) → ◌≡◌ {A = Option Choice} (if b then Some y else Some x) (Some c) → (Some x ≡ Some c) ⊎ (Some y ≡ Some c)
    step true e = inr e
    step false e = inl e

pub best_found : (n : ℕ) (f : ℕ → Option Choice) (c : Choice) → best n f ≡ Some c → Found n f c
best_found zero f c e = absurd (none (sym (best_none f) ∙ e))
  where
    none : ◌≡◌ {A = Option Choice} None (Some c) → ⊥
    none e = cc
best_found (suc n) f c e = elim (one_of (best n f) (f n) c (sym (best_next n f) ∙ e)) [
  | inl before ↦ let r : Found n f c = best_found n f c before in record { at = r.at; below = omega (arith, r.below); same = r.same }
  | inr here ↦ record { at = n; below = omega arith; same = here }
]
