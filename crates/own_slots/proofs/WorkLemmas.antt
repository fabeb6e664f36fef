-- Work of a buffer, from one period to all time
use Rattle.std.proofs.Common.{◌≡◌, ℕ, ◌+◌, ◌-◌, ◌*◌, ◌%◌, ◌<◌, ◌≤◌, max, ltb, Bool, true, false, cond, List, length, get_or, refl, ap, sym, ◌∙◌, inl, inr}
use Rattle.std.proofs.Common.{arith}
use Rattle.std.proofs.Math.Nat.{mod-eq_of_lt, mod_self, mod-add-mod, mul-mod_left, mul-le-mul_left}
use Rattle.std.proofs.lemmas.Nat.{mod_below}
use Rattle.std.proofs.lemmas.Bool.{cases_lt, cond-true, cond-false, lt-ltb, le-ltb}
use Rattle.std.proofs.lemmas.List.Sums.{fold_more}
use Rattle.own_slots.specs.Period.{own}
use Rattle.own_slots.specs.Extremes.{greatest}
use Rattle.own_slots.specs.Work.{work_step, work_at, before_at, after_at, most_before, most_after, work_left, HoldsWork, WorkStep, periodic_work, WorkWalkLaw}
use Rattle.own_slots.specs.Work.{WorkLaw, WorkScaleLaw}
use Rattle.own_slots.specs.Switch.{joined, joined_work, SwitchWorkLaw}
use Rattle.own_slots.proofs.Extremes.{at_most_greatest, greatest_more}
use Rattle.own_slots.proofs.SwitchLemmas.{joined_first, joined_second}

-- ---- One walk over the slots

pub work_begin : (rate drain start : ℕ) (marks : List Bool) → work_at rate drain start marks 0 ≡ start
unfolding work_at
work_begin rate drain start marks = refl

pub work_more : (rate drain start : ℕ) (marks : List Bool) (s : ℕ) → s < length marks →
    work_at rate drain start marks (s + 1) ≡ work_step rate drain (work_at rate drain start marks s) (get_or marks s false)
unfolding work_at
work_more rate drain start marks s lt = fold_more (work_step rate drain) start marks s false lt

pub work_walk_law : WorkWalkLaw
work_walk_law rate drain start marks = (work_begin rate drain start marks, work_more rate drain start marks)

-- ---- The repeated period

-- At slot p of a period, the work at the next slot is at least the work by the rule.
next_work : (rate drain room start peak : ℕ) (marks : List Bool) → HoldsWork rate drain room start peak marks → (s : ℕ) → 0 < length marks →
    work_step rate drain (periodic_work rate drain start marks s) (own marks s) ≤ periodic_work rate drain start marks (s + 1)
next_work rate drain room start peak marks holds s pos = elim (cases_lt (s % length marks + 1) (length marks)) [
  | inl more ↦ rw (on more) (omega (arith, work_more rate drain start marks (s % length marks) within))
  | inr end ↦ rw (turn (omega arith))
      (omega (arith, work_begin rate drain start marks, work_more rate drain start marks (s % length marks) within, whole (omega arith), holds.carries))
]
  where
    within : s % length marks < length marks
    within = mod_below s (length marks) pos

    on : s % length marks + 1 < length marks → (s + 1) % length marks ≡ s % length marks + 1
    on more = sym (mod-add-mod s (length marks) 1) ∙ mod-eq_of_lt more

    turn : s % length marks + 1 ≡ length marks → (s + 1) % length marks ≡ 0
    turn e = sym (mod-add-mod s (length marks) 1) ∙ ap (λ (n : ℕ). n % length marks) e ∙ mod_self (length marks)

    whole : s % length marks + 1 ≡ length marks → work_at rate drain start marks (s % length marks + 1) ≡ work_at rate drain start marks (length marks)
    whole e = ap (work_at rate drain start marks) e

idle_step : (rate drain work : ℕ) (m : Bool) → m ≡ false → work - 188 * drain ≤ work_step rate drain work m
idle_step rate drain work m n = omega arith

busy_step : (rate drain work : ℕ) (m : Bool) → m ≡ true → work_step rate drain work m ≡ (work - 188 * drain) + 188 * rate
busy_step rate drain work m y = ap (λ (b : Bool). (work - 188 * drain) + cond b (188 * rate) 0) y

pub work_law : WorkLaw
work_law rate drain room start peak marks pos holds s = record {
  idle = λ n. omega
      (arith, idle_step rate drain (periodic_work rate drain start marks s) (own marks s) n, next_work rate drain room start peak marks holds s pos);
  busy = λ y. omega
      (arith, busy_step rate drain (periodic_work rate drain start marks s) (own marks s) y, next_work rate drain room start peak marks holds s pos);
  fits = λ y. omega (
    arith,
    holds.fits,
    before,
    cond-true (own marks s) (periodic_work rate drain start marks s + 188 * rate) 0 y,
  );
  peaks = λ y. omega (
    arith,
    holds.peaks,
    after,
    cond-true (own marks s) (work_at rate drain start marks (s % length marks + 1)) 0 y,
    work_more rate drain start marks (s % length marks) within,
    busy_step rate drain (periodic_work rate drain start marks s) (own marks s) y,
  );
}
  where
    within : s % length marks < length marks
    within = mod_below s (length marks) pos

    before : cond (own marks s) (periodic_work rate drain start marks s + 188 * rate) 0 ≤ most_before rate drain start marks
    before = at_most_greatest (length marks) (λ t. cond (get_or marks t false) (work_at rate drain start marks t + 188 * rate) 0) (s % length marks) within

    after : cond (own marks s) (work_at rate drain start marks (s % length marks + 1)) 0 ≤ most_after rate drain start marks
    after = at_most_greatest (length marks) (λ t. cond (get_or marks t false) (work_at rate drain start marks (t + 1)) 0) (s % length marks) within

-- ---- Scale

scaled : (q v d : ℕ) → q * v - 188 * (q * d) ≡ q * (v - 188 * d)
scaled q v d = elim (cases_lt v (188 * d)) [
  | inl lt ↦ let z : v - 188 * d ≡ 0 = omega arith in rw z (under q v d (omega arith))
  | inr le ↦ over q v d (v - 188 * d) (omega arith)
]
  where
    under : (q v d : ℕ) → v ≤ 188 * d → q * v - 188 * (q * d) ≡ q * 0
    under q v d le = omega (arith, mul-le-mul_left q le)

    over : (q v d x : ℕ) → v ≡ x + 188 * d → q * v - 188 * (q * d) ≡ q * x
    over q v d x e = rw e (omega arith)

pub work_scale_law : WorkScaleLaw
work_scale_law own rate drain room peak q W bounds s = record {
  idle = λ n. rw (scaled q (W s) drain) (mul-le-mul_left q ((bounds s).idle n));
  busy = λ y. rw (scaled q (W s) drain) (omega (arith, mul-le-mul_left q ((bounds s).busy y)));
  fits = λ y. omega (arith, mul-le-mul_left q ((bounds s).fits y));
  peaks = λ y. rw (scaled q (W s) drain) (omega (arith, mul-le-mul_left q ((bounds s).peaks y)));
}

-- ---- The extremes, with one more slot of the walk

pub before_more : (rate drain start : ℕ) (marks : List Bool) (s : ℕ) → get_or marks s false ≡ true →
    greatest (s + 1) (before_at rate drain start marks) ≡ max (greatest s (before_at rate drain start marks)) (work_at rate drain start marks s + 188 * rate)
before_more rate drain start marks s y = greatest_more s (before_at rate drain start marks)
    ∙ ap (max (greatest s (before_at rate drain start marks))) (cond-true (get_or marks s false) (work_at rate drain start marks s + 188 * rate) 0 y)

pub before_same : (rate drain start : ℕ) (marks : List Bool) (s : ℕ) → get_or marks s false ≡ false →
    greatest (s + 1) (before_at rate drain start marks) ≡ greatest s (before_at rate drain start marks)
before_same rate drain start marks s n = greatest_more s (before_at rate drain start marks)
    ∙ ap (max (greatest s (before_at rate drain start marks))) (cond-false (get_or marks s false) (work_at rate drain start marks s + 188 * rate) 0 n)
    ∙ omega arith

pub after_more : (rate drain start : ℕ) (marks : List Bool) (s : ℕ) → get_or marks s false ≡ true →
    greatest (s + 1) (after_at rate drain start marks) ≡ max (greatest s (after_at rate drain start marks)) (work_at rate drain start marks (s + 1))
after_more rate drain start marks s y = greatest_more s (after_at rate drain start marks)
    ∙ ap (max (greatest s (after_at rate drain start marks))) (cond-true (get_or marks s false) (work_at rate drain start marks (s + 1)) 0 y)

pub after_same : (rate drain start : ℕ) (marks : List Bool) (s : ℕ) → get_or marks s false ≡ false →
    greatest (s + 1) (after_at rate drain start marks) ≡ greatest s (after_at rate drain start marks)
after_same rate drain start marks s n = greatest_more s (after_at rate drain start marks)
    ∙ ap (max (greatest s (after_at rate drain start marks))) (cond-false (get_or marks s false) (work_at rate drain start marks (s + 1)) 0 n) ∙ omega arith

-- ---- The switch

-- At the last slot of a period, the rule gives the work that the period leaves.
last_work : (rate drain room start peak : ℕ) (marks : List Bool) → (s y : ℕ) → 0 < length marks → s + 1 ≡ y * length marks →
    work_step rate drain (periodic_work rate drain start marks s) (own marks s) ≡ work_left rate drain start marks
last_work rate drain room start peak marks s y pos e = sym (work_more rate drain start marks (s % length marks) within)
    ∙ ap (work_at rate drain start marks) end
  where
    within : s % length marks < length marks
    within = mod_below s (length marks) pos

    whole : (s + 1) % length marks ≡ 0
    whole = ap (λ (n : ℕ). n % length marks) e ∙ mul-mod_left y (length marks)

    end : s % length marks + 1 ≡ length marks
    end = elim (cases_lt (s % length marks + 1) (length marks)) [
      | inl more ↦ absurd (omega (arith, whole, sym (mod-add-mod s (length marks) 1) ∙ mod-eq_of_lt more))
      | inr le ↦ omega arith
    ]

pub switch_work_law : SwitchWorkLaw
switch_work_law rate drain room start peak first next_start next_peak second periods p1 p2 one two left s =
    elim (cases_lt s at) [ inl lt ↦ before lt | inr le ↦ after (s - at) (omega arith) ]
  where
    at : ℕ
    at = periods * length first

    J : ℕ → Bool
    J = joined (own first) (own second) at

    V : ℕ → ℕ
    V = periodic_work rate drain start first

    W : ℕ → ℕ
    W = periodic_work rate drain next_start second

    JW : ℕ → ℕ
    JW = joined_work V W at

    here_first : (t : ℕ) → t < at → JW t ≡ V t
    here_first t lt = cond-true (ltb t at) (V t) (W (t - at)) (lt-ltb t at lt)

    here_second : (d : ℕ) → JW (at + d) ≡ W d
    here_second d = cond-false (ltb (at + d) at) (V (at + d)) (W (at + d - at)) (le-ltb (at + d) at (omega arith)) ∙ ap W (omega arith)

    next_first : s < at → work_step rate drain (V s) (own first s) ≤ JW (s + 1)
    next_first lt = elim (cases_lt (s + 1) at) [
      | inl more ↦ omega (arith, here_first (s + 1) more, next_work rate drain room start peak first one s p1)
      | inr end ↦ let e : s + 1 ≡ at + 0 = omega arith in
          let begun : W 0 ≡ next_start = ap (work_at rate drain next_start second) (mod-eq_of_lt p2) ∙ work_begin rate drain next_start second in
          omega (arith, ap JW e, here_second 0, begun, left, last_work rate drain room start peak first s periods p1 (omega arith))
    ]

    before : s < at → WorkStep J rate drain room (max peak next_peak) JW s
    before lt =
        let step : WorkStep (own first) rate drain room peak V s = work_law rate drain room start peak first p1 one s in
        let mine : J s ≡ own first s = joined_first (own first) (own second) at s lt in
        let here : JW s ≡ V s = here_first s lt in
        record {
          idle = λ n. omega (arith, here, next_first lt, idle_step rate drain (V s) (own first s) (sym mine ∙ n));
          busy = λ y. omega (arith, here, next_first lt, busy_step rate drain (V s) (own first s) (sym mine ∙ y));
          fits = λ y. omega (arith, here, step.fits (sym mine ∙ y));
          peaks = λ y. omega (arith, here, step.peaks (sym mine ∙ y));
        }

    after : (d : ℕ) → s ≡ at + d → WorkStep J rate drain room (max peak next_peak) JW s
    after d e =
        let step : WorkStep (own second) rate drain room next_peak W d = work_law rate drain room next_start next_peak second p2 two d in
        let mine : J s ≡ own second d = ap J e ∙ joined_second (own first) (own second) at d in
        let here : JW s ≡ W d = ap JW e ∙ here_second d in
        let f : s + 1 ≡ at + (d + 1) = omega arith in
        let next : JW (s + 1) ≡ W (d + 1) = ap JW f ∙ here_second (d + 1) in
        record {
          idle = λ n. omega (arith, here, next, step.idle (sym mine ∙ n));
          busy = λ y. omega (arith, here, next, step.busy (sym mine ∙ y));
          fits = λ y. omega (arith, here, step.fits (sym mine ∙ y));
          peaks = λ y. omega (arith, here, step.peaks (sym mine ∙ y));
        }
