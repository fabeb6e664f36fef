-- The least distance of own slots, over all time, across a switch and in one walk
use Rattle.std.proofs.Common.{false, min, ◌≡◌, ℕ, zero, suc, ◌+◌, ◌-◌, ◌*◌, ◌/◌, ◌%◌, ◌<◌, ◌≤◌, Bool, true, cond, List, length, ap, sym, ◌∙◌, inl, inr, arith}
use Rattle.std.proofs.Common.{◌⊎◌, refl, le_antisymm}
use Rattle.std.proofs.Math.Nat.{add-suc, add-zero, mod-add-div'}
use Rattle.std.proofs.lemmas.Nat.{mod_below}
use Rattle.std.proofs.lemmas.Bool.{cases_Bool, cases_lt, cond-true, cond-false}
use Rattle.own_slots.specs.Slots.{own_before}
use Rattle.own_slots.specs.Period.{own, per_period, position, back}
use Rattle.own_slots.specs.Switch.{joined}
use Rattle.own_slots.specs.Extremes.{least}
use Rattle.own_slots.proofs.Extremes.{Reached, least_at_most, least_below, least_more, least_reached}
use Rattle.own_slots.proofs.Counts.{own_before_own, own_before_other, own_before_same, own_before_lt, before_from}
use Rattle.own_slots.proofs.PositionLemmas.{own_before_period, own_before_turns, positions_law, position_below, position_turns, position_le}
use Rattle.own_slots.proofs.SwitchLemmas.{joined_first, joined_second, back_law}
use Rattle.slot_plan.specs.LeastGaps.{least_gap, least_gap_across}

-- 1. One plan

-- The least distance of one period is the least of all own slots.
pub least_all : (marks : List Bool) (k i : ℕ) → 0 < per_period marks → position marks i + least_gap marks k ≤ position marks (i + k)
least_all marks k i pos =
    let r : ℕ = i % per_period marks in
    let y : ℕ = i / per_period marks in
    let split : r + y * per_period marks ≡ i = mod-add-div' i (per_period marks) in
    let near : least_gap marks k ≤ position marks (r + k) - position marks r =
    least_at_most (position marks k) (per_period marks) (λ j. position marks (j + k) - position marks j) r (mod_below i (per_period marks) pos) in
    let here : position marks i ≡ position marks r + y * length marks = ap (position marks) (sym split) ∙ position_turns marks r y pos in
    let there : position marks (i + k) ≡ position marks (r + k) + y * length marks =
    ap (position marks) (far r y (per_period marks) i k split) ∙ position_turns marks (r + k) y pos in
    omega (arith, near, here, there, position_le marks r (r + k) pos (omega arith))
  where
    far : (r y c i k : ℕ) → r + y * c ≡ i → i + k ≡ (r + k) + y * c
    far r y c i k e = omega arith

-- Own slots with k - 1 own slots between them are no nearer.
pub near_law : (marks : List Bool) (k s t : ℕ) → 0 < per_period marks → own marks s ≡ true → own marks t ≡ true →
    own_before (own marks) s + k ≤ own_before (own marks) t → s + least_gap marks k ≤ t
near_law marks k s t pos here there le = omega (
  arith,
  (positions_law marks pos).found s here,
  (positions_law marks pos).found t there,
  least_all marks k (own_before (own marks) s) pos,
  position_le marks (own_before (own marks) s + k) (own_before (own marks) t) pos le,
)

-- 2. Two plans

-- The least distance over two plans.
abbrev pub least_of_both : List Bool → List Bool → ℕ → ℕ
least_of_both first second k = min (least_gap first k) (min (least_gap second k) (least_gap_across first second k))

before_switch : (first second : ℕ → Bool) (at s : ℕ) → s ≤ at → own_before (joined first second at) s ≡ own_before first s
before_switch first second at s le = own_before_same (joined first second at) first s (λ t lt. joined_first first second at t (omega arith))

after_switch : (first second : ℕ → Bool) (at d : ℕ) → own_before (joined first second at) (at + d) ≡ own_before first at + own_before second d
after_switch first second at zero = rw add-zero (before_switch first second at at (omega arith) ∙ from_zero)
  where
    from_zero : own_before first at ≡ own_before first at + own_before second zero
    from_zero = unfold own_before in omega arith
after_switch first second at (suc d) = rw add-suc (elim (cases_Bool (second d)) [
  | inl y ↦ omega (
    arith,
    after_switch first second at d,
    own_before_own (joined first second at) (at + d) (joined_second first second at d ∙ y),
    own_before_own second d y,
  )
  | inr n ↦ omega (
    arith,
    after_switch first second at d,
    own_before_other (joined first second at) (at + d) (joined_second first second at d ∙ n),
    own_before_other second d n,
  )
])

whole_periods : (marks : List Bool) (y : ℕ) → own_before (own marks) (y * length marks) ≡ y * per_period marks
whole_periods marks y = let z : own_before (own marks) 0 ≡ 0 = unfold own_before in refl in
    let e : y * length marks ≡ 0 + y * length marks = omega arith in ap (own_before (own marks)) e ∙ omega (arith, own_before_turns marks 0 y, z)

-- From the first plan's own slot s to the second plan's own slot d.
spanned : (first second : List Bool) (periods k s d : ℕ) → 0 < per_period first → 0 < per_period second → own first s ≡ true → own second d ≡ true →
    s < periods * length first →
    own_before (own first) s + k ≤ periods * per_period first + own_before (own second) d →
    s + least_of_both first second k ≤ periods * length first + d
spanned first second periods k s d pos next here there before le =
    let i : ℕ = own_before (own first) s in
    let n : ℕ = periods * per_period first in
    let few : i + 1 ≤ n = omega (arith, own_before_lt (own first) s (periods * length first) here before, whole_periods first periods) in
    let y : ℕ = n - suc i in
    elim (cases_lt y k) [ inl near ↦ across y (omega (arith, few)) near | inr far ↦ within (omega (arith, few, far)) ]
  where
    at : ℕ
    at = periods * length first

    across : (y : ℕ) → own_before (own first) s + suc y ≡ periods * per_period first → y < k →
        s + least_of_both first second k ≤ at + d
    across y e lt = omega (
      arith,
      back_law first (suc y) periods s pos (omega arith) here e,
      least_at_most (position second 0 + back first k) k (λ x. position second (k - suc x) + back first (suc x)) y lt,
      position_le second (k - suc y) (own_before (own second) d) next (omega (arith, le, e)),
      (positions_law second next).found d there,
    )

    within : own_before (own first) s + k < periods * per_period first →
        s + least_of_both first second k ≤ at + d
    within lt = omega (
      arith,
      least_all first k (own_before (own first) s) pos,
      (positions_law first pos).found s here,
      before_from (own first) (position first (own_before (own first) s + k)) at
          (omega (arith, (positions_law first pos).counted (own_before (own first) s + k), whole_periods first periods, lt)),
    )

pub near_across_law : (first second : List Bool) (periods k s t : ℕ) → 0 < per_period first → 0 < per_period second → s < t →
    joined (own first) (own second) (periods * length first) s ≡ true → joined (own first) (own second) (periods * length first) t ≡ true →
    own_before (joined (own first) (own second) (periods * length first)) s + k ≤ own_before (joined (own first) (own second) (periods * length first)) t →
    s + least_of_both first second k ≤ t
near_across_law first second periods k s t pos next ordered here there le =
    elim (cases_lt t at) [
      | inl early ↦ first_alone early
      | inr late ↦ elim (cases_lt s at) [
        | inl before ↦ both (t - at) before (omega (arith, late))
        | inr after ↦ second_alone (s - at) (t - at) (omega (arith, after)) (omega (arith, late))
      ]
    ]
  where
    at : ℕ
    at = periods * length first

    J : ℕ → Bool
    J = joined (own first) (own second) at

    first_alone : t < at → s + least_of_both first second k ≤ t
    first_alone early = let before : s < at = omega (arith, ordered, early) in omega (
      arith,
      near_law first k s t pos (sym (joined_first (own first) (own second) at s before) ∙ here) (sym (joined_first (own first) (own second) at t early) ∙ there)
          (omega (
            arith,
            le,
            before_switch (own first) (own second) at s (omega (arith, before)),
            before_switch (own first) (own second) at t (omega (arith, early)),
          )),
    )

    both : (d : ℕ) → s < at → at + d ≡ t → s + least_of_both first second k ≤ t
    both d before e = omega (
      arith,
      e,
      spanned first second periods k s d pos next (sym (joined_first (own first) (own second) at s before) ∙ here)
          (sym (joined_second (own first) (own second) at d) ∙ ap J e ∙ there) before
          (omega (
            arith,
            le,
            before_switch (own first) (own second) at s (omega (arith, before)),
            ap (own_before J) e,
            after_switch (own first) (own second) at d,
            whole_periods first periods,
          )),
    )

    second_alone : (c d : ℕ) → at + c ≡ s → at + d ≡ t → s + least_of_both first second k ≤ t
    second_alone c d e f = omega (
      arith,
      e,
      f,
      near_law second k c d next (sym (joined_second (own first) (own second) at c) ∙ ap J e ∙ here)
          (sym (joined_second (own first) (own second) at d) ∙ ap J f ∙ there)
          (omega (arith, le, ap (own_before J) e, ap (own_before J) f, after_switch (own first) (own second) at c, after_switch (own first) (own second) at d)),
    )

-- 3. One walk over the slots of a period

-- The number that the walk keeps at slot s.
abbrev pub near_ahead : List Bool → ℕ → ℕ → ℕ
near_ahead marks k s = cond (own marks s) (position marks (own_before (own marks) s + k) - s) (position marks k)

near_own : (marks : List Bool) (k s : ℕ) → own marks s ≡ true → near_ahead marks k s ≡ position marks (own_before (own marks) s + k) - s
near_own marks k s y = cond-true (own marks s) (position marks (own_before (own marks) s + k) - s) (position marks k) y

near_other : (marks : List Bool) (k s : ℕ) → own marks s ≡ false → near_ahead marks k s ≡ position marks k
near_other marks k s n = cond-false (own marks s) (position marks (own_before (own marks) s + k) - s) (position marks k) n

near_position : (marks : List Bool) (k i : ℕ) → 0 < per_period marks → near_ahead marks k (position marks i) ≡ position marks (i + k) - position marks i
near_position marks k i pos = near_own marks k (position marks i) ((positions_law marks pos).is_own i)
    ∙ ap (λ (n : ℕ). position marks (n + k) - position marks i) ((positions_law marks pos).counted i)

pub near_walk_law : (marks : List Bool) (k : ℕ) → 0 < per_period marks → least (position marks k) (length marks) (near_ahead marks k) ≡ least_gap marks k
near_walk_law marks k pos = le_antisymm
    (below (least_reached (position marks k) (per_period marks) distance))
    (above (least_reached (position marks k) (length marks) (near_ahead marks k)))
  where
    distance : ℕ → ℕ
    distance i = position marks (i + k) - position marks i

    walked : ℕ
    walked = least (position marks k) (length marks) (near_ahead marks k)

    below : (least_gap marks k ≡ position marks k) ⊎ Reached (per_period marks) distance (least_gap marks k) → walked ≤ least_gap marks k
    below (inl e) = omega (arith, e, least_below (position marks k) (length marks) (near_ahead marks k))
    below (inr r) = omega (
      arith,
      r.same,
      near_position marks k r.at pos,
      least_at_most (position marks k) (length marks) (near_ahead marks k) (position marks r.at) (position_below marks r.at pos r.below),
    )

    at_own : (s : ℕ) → s < length marks → own marks s ≡ true → least_gap marks k ≤ near_ahead marks k s
    at_own s lt y =
        let i : ℕ = own_before (own marks) s in
        let few : i < per_period marks = omega (arith, own_before_lt (own marks) s (length marks) y lt, own_before_period marks) in
        let near : least_gap marks k ≤ position marks (i + k) - position marks i = least_at_most (position marks k) (per_period marks) distance i few in
        omega (arith, near_own marks k s y, near, (positions_law marks pos).found s y)

    above : (walked ≡ position marks k) ⊎ Reached (length marks) (near_ahead marks k) walked → least_gap marks k ≤ walked
    above (inl e) = omega (arith, e, least_below (position marks k) (per_period marks) distance)
    above (inr r) = elim (cases_Bool (own marks r.at)) [
      | inl y ↦ omega (arith, r.same, at_own r.at r.below y)
      | inr n ↦ omega (arith, r.same, near_other marks k r.at n, least_below (position marks k) (per_period marks) distance)
    ]

-- One more slot of the walk

pub near_more : (marks : List Bool) (k s : ℕ) → own marks s ≡ true →
    least (position marks k) (s + 1) (near_ahead marks k)
    ≡ min (least (position marks k) s (near_ahead marks k)) (position marks (own_before (own marks) s + k) - s)
near_more marks k s y = least_more (position marks k) s (near_ahead marks k) ∙ ap (min (least (position marks k) s (near_ahead marks k))) (near_own marks k s y)

pub near_same : (marks : List Bool) (k s : ℕ) → own marks s ≡ false →
    least (position marks k) (s + 1) (near_ahead marks k) ≡ least (position marks k) s (near_ahead marks k)
near_same marks k s n =
    least_more (position marks k) s (near_ahead marks k) ∙ ap (min (least (position marks k) s (near_ahead marks k))) (near_other marks k s n)
    ∙ omega (arith, least_below (position marks k) s (near_ahead marks k))
