-- Begins that include all own slots, if these slots recur within a limit, are never late.
use Rattle.std.proofs.Common.{◌≡◌, ℕ, zero, suc, ◌+◌, ◌-◌, ◌*◌, ◌≤◌, ◌<◌, Bool, true, List, [], ◌∷◌, ◌++◌, map, refl, subst, arith, inl, inr}
use Rattle.std.specs.Prelude.{⊤}
use Rattle.std.proofs.lemmas.Bool.{cases_Bool}
use Rattle.clock27.specs.Recurrence.{Recur}
use Rattle.own_slots.specs.Slots.{own_slots}
use Rattle.monitor.specs.Gaps.{late}
use Rattle.laws_run.proofs.Lateness.{short_gap}

-- The byte offsets at which slots begin
abbrev pub begins_of : List ℕ → List ℕ
begins_of slots = map (λ s. 188 * s) slots

-- The first own slot from slot s on, or the end of the run, is no nearer than slot q.
far : (rate least from until : ℕ) (own : ℕ → Bool) (s n q : ℕ) → q ≤ s → 188 * (s + n) ≤ until →
    Recur rate least from (begins_of (own_slots own s n)) until → (188 * q - from) * 8000 ≤ least * rate
unfolding Recur own_slots
far rate least from until own s zero q le end h = omega (arith, le, end, h)
far rate least from until own s (suc n) q le end h = elim (cases_Bool (own s)) [
  | inl y ↦
      let at : own_slots own s (suc n) ≡ s ∷ own_slots own (suc s) n = rw y refl in
      let first = (subst (λ (l : List ℕ). Recur rate least from (begins_of l) until) at h).0 in
      omega (arith, le, first)
  | inr k ↦
      let at : own_slots own s (suc n) ≡ own_slots own (suc s) n = rw k refl in
      far rate least from until own (suc s) n q (omega (arith, le)) (omega (arith, end))
      (subst (λ (l : List ℕ). Recur rate least from (begins_of l) until) at h)
]

-- An optional end: at most one more place, not after the end of the run
abbrev pub IsEnd : ℕ → List ℕ → Type 0
IsEnd until [] = ⊤
IsEnd until (e ∷ []) = 188 * e ≤ until
IsEnd until (e ∷ f ∷ es) = ⊥

last_late : (rate least limit until o p : ℕ) (ends : List ℕ) → least ≤ limit → IsEnd until ends → o ≤ p → (until - 188 * o) * 8000 ≤ least * rate →
    late rate limit (p ∷ ends) ≡ []
last_late rate least limit until o p [] le end op h = refl
last_late rate least limit until o p (e ∷ []) le end op h =
    let gap : (e - p) * 1504000 ≤ least * rate = omega (arith, end, op, h) in
    let short = short_gap rate least limit (e - p) gap le in
    rw short refl
last_late rate least limit until o p (e ∷ f ∷ es) le end op h = absurd end

-- Begins from slot s on are not late after place p, if p is not before slot o, the last own slot or the begin of the run.
pub between : (rate least limit until : ℕ) (ends : List ℕ) (own begun : ℕ → Bool) (s n o p : ℕ) → least ≤ limit → IsEnd until ends → o ≤ p → p ≤ s →
    188 * (s + n) ≤ until →
    ((t : ℕ) → t < s + n → own t ≡ true → begun t ≡ true) → Recur rate least (188 * o) (begins_of (own_slots own s n)) until →
    late rate limit (p ∷ own_slots begun s n ++ ends) ≡ []
unfolding Recur own_slots
between rate least limit until ends own begun s zero o p le end op ps few all h = last_late rate least limit until o p ends le end op h
between rate least limit until ends own begun s (suc n) o p le end op ps few all h = elim (cases_Bool (own s)) [
  | inl y ↦
      let at : own_slots own s (suc n) ≡ s ∷ own_slots own (suc s) n = rw y refl in
      let b : begun s ≡ true = all s (omega arith) y in
      let both = subst (λ (l : List ℕ). Recur rate least (188 * o) (begins_of l) until) at h in
      let first = both.0 in
      let gap : (s - p) * 1504000 ≤ least * rate = omega (arith, op, first) in
      let short = short_gap rate least limit (s - p) gap le in
      let rest = between rate least limit until ends own begun (suc s) n s s le end (omega arith) (omega arith) (omega (arith, few)) later both.1 in
      rw (b, short) rest
  | inr k ↦
      let at : own_slots own s (suc n) ≡ own_slots own (suc s) n = rw k refl in
      let same = subst (λ (l : List ℕ). Recur rate least (188 * o) (begins_of l) until) at h in
      elim (cases_Bool (begun s)) [
        | inl b ↦
            let first = far rate least (188 * o) until own (suc s) n s (omega arith) (omega (arith, few)) same in
            let gap : (s - p) * 1504000 ≤ least * rate = omega (arith, op, first) in
            let short = short_gap rate least limit (s - p) gap le in
            let rest = between rate least limit until ends own begun (suc s) n o s le end (omega (arith, op, ps)) (omega arith) (omega (arith, few)) later
            same in
            rw (b, short) rest
        | inr c ↦
            let rest = between rate least limit until ends own begun (suc s) n o p le end op (omega (arith, ps)) (omega (arith, few)) later same in
            rw c rest
      ]
]
  where
    later : (t : ℕ) → t < suc s + n → own t ≡ true → begun t ≡ true
    later t lt = all t (omega (arith, lt))
