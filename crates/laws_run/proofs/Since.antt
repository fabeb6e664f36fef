-- From any packet on, begins that include all own slots, if these slots recur within a limit, are never late.
use Rattle.std.proofs.Common.{◌≡◌, ℕ, zero, suc, ◌+◌, ◌-◌, ◌*◌, ◌≤◌, ◌<◌, nat_lt, Bool, true, false, List, [], ◌∷◌, ◌++◌, filter, refl, ap, subst, ◌∙◌, arith}
use Rattle.std.proofs.Common.{inl, inr, le-ltb, lt-ltb}
use Rattle.std.proofs.lemmas.Bool.{cases_Bool, cases_lt}
use Rattle.clock27.specs.Recurrence.{Recur}
use Rattle.own_slots.specs.Slots.{own_slots}
use Rattle.monitor.specs.Gaps.{late}
use Rattle.laws_run.proofs.Lateness.{short_gap}
use Rattle.laws_run.proofs.Between.{begins_of, between}

-- The own slots after slot s recur, counted from the last own slot up to s or from the begin of the run

record After (rate least until : ℕ) (own : ℕ → Bool) (s m : ℕ) : Type 0 where
  last : ℕ
  passed : last ≤ s
  recur : Recur rate least (188 * last) (begins_of (own_slots own (suc s) m)) until

one_after : (rate least until o s m : ℕ) (own : ℕ → Bool) → o ≤ s → Recur rate least (188 * o) (begins_of (own_slots own s (suc m))) until →
    After rate least until own s m
unfolding Recur own_slots
one_after rate least until o s m own le h = elim (cases_Bool (own s)) [
  | inl y ↦
      let at : own_slots own s (suc m) ≡ s ∷ own_slots own (suc s) m = rw y refl in
      record { last = s; passed = omega arith; recur = (subst (λ (l : List ℕ). Recur rate least (188 * o) (begins_of l) until) at h).1 }
  | inr k ↦
      let at : own_slots own s (suc m) ≡ own_slots own (suc s) m = rw k refl in
      record { last = o; passed = le; recur = subst (λ (l : List ℕ). Recur rate least (188 * o) (begins_of l) until) at h }
]

all_after : (rate least until o s k n m t : ℕ) (own : ℕ → Bool) → n ≡ k + m → t ≡ k + s → o ≤ s →
    Recur rate least (188 * o) (begins_of (own_slots own s (suc n))) until →
    After rate least until own t m
all_after rate least until o s zero n m t own e f le h =
    let rest : n ≡ m = omega (arith, e) in
    let here : s ≡ t = omega (arith, f) in
    subst (λ (u : ℕ). After rate least until own u m) here (subst (λ (u : ℕ). After rate least until own s u) rest (one_after rate least until o s n own le h))
all_after rate least until o s (suc k) zero m t own e f le h = absurd (omega (arith, e))
all_after rate least until o s (suc k) (suc n) m t own e f le h =
    let first = one_after rate least until o s (suc n) own le h in
    let passed = first.passed in
    all_after rate least until first.last (suc s) k n m t own (omega (arith, e)) (omega (arith, f)) (omega (arith, passed)) first.recur

-- The places after a slot

all_kept : (begun : ℕ → Bool) (since s m : ℕ) → since < s → filter (λ t. nat_lt since t) (own_slots begun s m) ≡ own_slots begun s m
unfolding own_slots
all_kept begun since s zero lt = refl
all_kept begun since s (suc m) lt =
    let rest = all_kept begun since (suc s) m (omega (arith, lt)) in
    let here : nat_lt since s ≡ true = lt-ltb since s lt in
    elim (cases_Bool (begun s)) [ inl y ↦ rw (y, here, rest) refl | inr n ↦ rw (n, rest) refl ]

first_dropped : (begun : ℕ → Bool) (since s k n m : ℕ) → n ≡ k + m → k + s ≡ suc since →
    filter (λ t. nat_lt since t) (own_slots begun s n) ≡ own_slots begun (suc since) m
unfolding own_slots
first_dropped begun since s zero n m e f =
    let rest : n ≡ m = omega (arith, e) in
    let here : s ≡ suc since = omega (arith, f) in
    all_kept begun since s n (omega (arith, f)) ∙ ap (λ (t : ℕ). own_slots begun t n) here ∙ ap (own_slots begun (suc since)) rest
first_dropped begun since s (suc k) zero m e f = absurd (omega (arith, e))
first_dropped begun since s (suc k) (suc n) m e f =
    let rest = first_dropped begun since (suc s) k n m (omega (arith, e)) (omega (arith, f)) in
    let here : nat_lt since s ≡ false = le-ltb since s (omega (arith, f)) in
    elim (cases_Bool (begun s)) [ inl y ↦ rw (y, here) rest | inr n ↦ rw n rest ]

none_kept : (begun : ℕ → Bool) (since s m : ℕ) → s + m ≤ suc since → filter (λ t. nat_lt since t) (own_slots begun s m) ≡ []
unfolding own_slots
none_kept begun since s zero le = refl
none_kept begun since s (suc m) le =
    let rest = none_kept begun since (suc s) m (omega (arith, le)) in
    let here : nat_lt since s ≡ false = le-ltb since s (omega (arith, le)) in
    elim (cases_Bool (begun s)) [ inl y ↦ rw (y, here) rest | inr n ↦ rw n rest ]

-- From a packet to the end of the run

pub since_in_time : (rate least limit since n : ℕ) (own begun : ℕ → Bool) → least ≤ limit → ((t : ℕ) → t < n → own t ≡ true → begun t ≡ true) →
    Recur rate least 0 (begins_of (own_slots own 0 n)) (188 * n) →
    late rate limit (since ∷ filter (λ t. nat_lt since t) (own_slots begun 0 n) ++ n ∷ []) ≡ []
since_in_time rate least limit since n own begun le all h = elim (cases_lt since n) [
  | inl lt ↦ by (n - suc since) lt (omega (arith, lt))
  | inr past ↦
      let none = none_kept begun since 0 n (omega (arith, past)) in
      let gap : (n - since) * 1504000 ≤ least * rate = omega (arith, past) in
      let short = short_gap rate least limit (n - since) gap le in
      ap (λ (slots : List ℕ). late rate limit (since ∷ slots ++ n ∷ [])) none ∙ rw short refl
]
  where
    by : (m : ℕ) → since < n → n ≡ suc since + m → late rate limit (since ∷ filter (λ t. nat_lt since t) (own_slots begun 0 n) ++ n ∷ []) ≡ []
    by m lt e =
        let one : n ≡ suc (since + m) = omega (arith, e) in
        let recur : Recur rate least 0 (begins_of (own_slots own 0 (suc (since + m)))) (188 * n) =
        subst (λ (t : ℕ). Recur rate least 0 (begins_of (own_slots own 0 t)) (188 * n)) one h in
        let from : After rate least (188 * n) own since m =
        all_after rate least (188 * n) 0 0 since (since + m) m since own refl (omega arith) (omega arith) recur in
        let passed = from.passed in
        let places = first_dropped begun since 0 (suc since) n m e (omega arith) in
        ap (λ (slots : List ℕ). late rate limit (since ∷ slots ++ n ∷ [])) places
        ∙ between rate least limit (188 * n) (n ∷ []) own begun (suc since) m from.last since le (omega arith) passed (omega arith) (omega (arith, e))
        (λ t few. all t (omega (arith, e, few))) from.recur
