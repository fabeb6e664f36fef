-- The count of own slots before a slot, and lists of own slots
use Rattle.std.proofs.Common.{◌≡◌, ℕ, zero, suc, ◌+◌, ◌-◌, ◌<◌, ◌≤◌, Bool, true, false, cond, List, [], ◌∷◌, refl, ap, sym, ◌∙◌, inl, inr, arith}
use Rattle.std.proofs.Math.Nat.{add-suc, add-zero}
use Rattle.std.proofs.lemmas.Bool.{cases_Bool, cases_lt, cases_order, cases_eq}
use Rattle.own_slots.specs.Slots.{own_before, own_slots, Rises, AtLeastPerWindow, Enumerates, ListLaw}

-- Past an own slot the count is one more.
pub own_before_own : (own : ℕ → Bool) (s : ℕ) → own s ≡ true → own_before own (suc s) ≡ own_before own s + 1
unfolding own_before
own_before_own own s y = ap (λ (b : Bool). own_before own s + cond b 1 0) y

-- Past a slot that is no own slot the count is the same.
pub own_before_other : (own : ℕ → Bool) (s : ℕ) → own s ≡ false → own_before own (suc s) ≡ own_before own s
unfolding own_before
own_before_other own s n = ap (λ (b : Bool). own_before own s + cond b 1 0) n ∙ add-zero (own_before own s)

own_before_step : (own : ℕ → Bool) (s : ℕ) → own_before own s ≤ own_before own (suc s)
own_before_step own s = elim (cases_Bool (own s)) [
  | inl y ↦ omega (arith, own_before_own own s y)
  | inr n ↦ omega (arith, own_before_other own s n)
]

pub own_before_more : (own : ℕ → Bool) (s d : ℕ) → own_before own s ≤ own_before own (s + d)
own_before_more own s zero = rw add-zero (omega arith)
own_before_more own s (suc d) = rw add-suc (omega (arith, own_before_more own s d, own_before_step own (s + d)))

-- The count never falls.
pub own_before_le : (own : ℕ → Bool) (s t : ℕ) → s ≤ t → own_before own s ≤ own_before own t
own_before_le own s t le = let e : t ≡ s + (t - s) = omega arith in rw e (own_before_more own s (t - s))

-- The count rises past each own slot.
pub own_before_lt : (own : ℕ → Bool) (s t : ℕ) → own s ≡ true → s < t → own_before own s + 1 ≤ own_before own t
own_before_lt own s t y lt = omega (arith, own_before_own own s y, own_before_le own (suc s) t lt)

-- An own slot that is counted before t lies before t.
pub before_from : (own : ℕ → Bool) (s t : ℕ) → own_before own s < own_before own t → s < t
before_from own s t lt = elim (cases_lt s t) [ inl k ↦ k | inr k ↦ absurd (omega (arith, own_before_le own t s k)) ]

-- Own slots with the same number are the same slot.
pub same_number : (own : ℕ → Bool) (s t : ℕ) → own s ≡ true → own t ≡ true → own_before own s ≡ own_before own t → s ≡ t
same_number own s t p q e = elim (cases_order s t) [
  | inl k ↦ k
  | inr k ↦ elim k [
    | inl lt ↦ absurd (omega (arith, own_before_lt own s t p lt))
    | inr lt ↦ absurd (omega (arith, own_before_lt own t s q lt))
  ]
]

pub record Numbered (own : ℕ → Bool) (i below : ℕ) : Type 0 where
  pub slot : ℕ
  pub before : slot < below
  pub is_own : own slot ≡ true
  pub number : own_before own slot ≡ i

-- Each number below the count has its own slot.
pub number_of : (own : ℕ → Bool) (s i : ℕ) → i < own_before own s → Numbered own i s
number_of own zero i lt = absurd (omega (arith, own_before_zero own))
  where
    own_before_zero : (own : ℕ → Bool) → own_before own zero ≡ 0
    own_before_zero own = unfold own_before in refl
number_of own (suc s) i lt = elim (cases_Bool (own s)) [
  | inl y ↦ elim (cases_eq i (own_before own s)) [
    | inl e ↦ record { slot = s; before = omega arith; is_own = y; number = sym e }
    | inr d ↦ let r : Numbered own i s = number_of own s i (omega (arith, own_before_own own s y)) in
        record { slot = r.slot; before = omega (arith, r.before); is_own = r.is_own; number = r.number }
  ]
  | inr n ↦ let r : Numbered own i s = number_of own s i (omega (arith, own_before_other own s n)) in
      record { slot = r.slot; before = omega (arith, r.before); is_own = r.is_own; number = r.number }
]

-- Two functions that agree below s have the same count before s.
pub own_before_same : (f g : ℕ → Bool) (s : ℕ) → ((t : ℕ) → t < s → f t ≡ g t) → own_before f s ≡ own_before g s
unfolding own_before
own_before_same f g zero same = refl
own_before_same f g (suc s) same = rw (same s (omega arith), own_before_same f g s (λ t lt. same t (omega arith))) refl

-- The count, taken from the front
pub own_before_front : (f : ℕ → Bool) (s : ℕ) → own_before f (suc s) ≡ cond (f 0) 1 0 + own_before (λ t. f (suc t)) s
unfolding own_before
own_before_front f zero = omega arith
own_before_front f (suc s) = rw (own_before_front f s) (omega arith)

-- ---- Windows

pub windows_serve : (own : ℕ → Bool) (P : ℕ → ℕ) (m g : ℕ) → Enumerates own P → ((i : ℕ) → P (i + m) ≤ P i + g) → (0 < m → P (m - 1) < g) →
    AtLeastPerWindow own g m
windows_serve own P m g en near first s = elim (cases_lt 0 m) [
  | inl pos ↦ elim (cases_lt 0 (own_before own s)) [
    | inl some ↦ from_before pos some
    | inr none ↦ let f : P (m - 1) < g = first pos in
        omega (arith, own_before_lt own (P (m - 1)) (s + g) (en.is_own (m - 1)) (omega arith), en.counted (m - 1))
  ]
  | inr none ↦ omega (arith, own_before_more own s g)
]
  where
    from_before : 0 < m → 0 < own_before own s → own_before own s + m ≤ own_before own (s + g)
    from_before pos some =
        let i : ℕ = own_before own s - 1 in
        let before : P i < s = before_from own (P i) s (omega (arith, en.counted i)) in
        let far : P (i + m) < s + g = omega (arith, near i) in
        omega (arith, own_before_lt own (P (i + m)) (s + g) (en.is_own (i + m)) far, en.counted (i + m))

-- ---- Lists of own slots

list_rises : ListLaw
unfolding own_slots Rises
list_rises own s zero = tt
list_rises own s (suc n) = elim (cases_Bool (own s)) [
  | inl y ↦ rw y (omega arith, y, list_rises own (suc s) n)
  | inr n' ↦ rw n' (rises_before own s (own_slots own (suc s) n) (list_rises own (suc s) n))
]
  where
    rises_before : (own : ℕ → Bool) (s : ℕ) (xs : List ℕ) → Rises own (suc s) xs → Rises own s xs
    rises_before own s [] r = tt
    rises_before own s (x ∷ xs) r = (omega (arith, r.0), r.1, r.2)

pub list_law : ListLaw
list_law = list_rises
