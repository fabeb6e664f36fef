-- Gaps across a switch, measured forward.
use Rattle.std.proofs.Common.{◌≡◌, ◌⊎◌, inl, inr, ℕ, suc, ◌+◌, ◌-◌, ◌*◌, ◌<◌, ◌≤◌, Bool, List, length, ap, ◌∙◌, arith, le_antisymm}
use Rattle.std.proofs.Math.Nat.{mul-le-mul_left}
use Rattle.own_slots.specs.Period.{per_period, position, back}
use Rattle.own_slots.specs.Extremes.{greatest, least}
use Rattle.own_slots.proofs.Extremes.{Reached, at_most_greatest, greatest_at_most, least_at_most, least_below, least_reached}
use Rattle.own_slots.proofs.SwitchLemmas.{back_spec}
use Rattle.slot_plan.specs.declared.slot.Slot.{Slot}
use Rattle.slot_plan.specs.declared.slot.Item.{Item}
use Rattle.slot_plan.specs.Items.{marks}
use Rattle.slot_plan.specs.LeastGaps.{least_gap_across}
use Rattle.slot_plan.specs.SwitchConditions.{gap_across}
use Rattle.plan_checker.proofs.OwnMarks.{length_marks}

-- The gap that ends at own slot number t of the second plan.
abbrev pub gap_after : List Bool → List Bool → ℕ → ℕ → ℕ
gap_after first second k t = position second t + back first (k - t)

-- The same gap as the condition counts it, backward from the switch.
abbrev gap_before : List Bool → List Bool → ℕ → ℕ → ℕ
gap_before first second k x = position second (k - suc x) + back first (suc x)

one_gap : (first second : List Bool) (k t x : ℕ) → t + suc x ≡ k → gap_after first second k t ≡ gap_before first second k x
one_gap first second k t x e =
    let f : k - t ≡ suc x = omega arith in
    let g : t ≡ k - suc x = omega arith in
    ap (λ (n : ℕ). position second t + back first n) f ∙ ap (λ (n : ℕ). position second n + back first (suc x)) g

pub walked_forward : (first second : List Bool) (k : ℕ) → greatest k (gap_after first second k) ≡ gap_across first second k
walked_forward first second k = le_antisymm
    (greatest_at_most k (gap_after first second k) (gap_across first second k) (λ t lt. forward t (k - suc t) lt (omega arith)))
    (greatest_at_most k (gap_before first second k) (greatest k (gap_after first second k)) (λ x lt. backward x (k - suc x) lt (omega arith)))
  where
    forward : (t x : ℕ) → t < k → t + suc x ≡ k → gap_after first second k t ≤ gap_across first second k
    forward t x lt e = omega (arith, one_gap first second k t x e, at_most_greatest k (gap_before first second k) x (omega arith))

    backward : (x t : ℕ) → x < k → t + suc x ≡ k → gap_before first second k x ≤ greatest k (gap_after first second k)
    backward x t lt e = omega (arith, one_gap first second k t x e, at_most_greatest k (gap_after first second k) t (omega arith))

-- An own slot of the first plan, counted back from the end of k periods.
pub before_switch : (marks : List Bool) (k t : ℕ) → 0 < per_period marks → t < k →
    position marks (k * per_period marks - k + t) + back marks (k - t) ≡ k * length marks
before_switch marks k t pos lt =
    let long : k * 1 ≤ k * per_period marks = mul-le-mul_left k pos in
    let e : k * per_period marks - k + t ≡ k * per_period marks - (k - t) = omega (arith, long) in
    ap (λ (n : ℕ). position marks n + back marks (k - t)) e ∙ back_spec marks (k - t) k pos (omega arith) (omega (arith, long))

-- The slots of plans

-- The last k own slots of the first plan are before the switch.
pub before_end : (item : Item) (slots : List Slot) (k t : ℕ) → 0 < per_period (marks item slots) → t < k →
    position (marks item slots) (k * per_period (marks item slots) - k + t) ≤ k * length slots
before_end item slots k t pos lt = omega (arith, before_switch (marks item slots) k t pos lt, ap (λ (n : ℕ). k * n) (length_marks item slots))

-- The gap that the loop measures.
pub gap_here : (item : Item) (first second : List Slot) (k t before after : ℕ) →
    before ≡ position (marks item first) (k * per_period (marks item first) - k + t) → after ≡ position (marks item second) t →
    0 < per_period (marks item first) → t < k → after + (k * length first - before) ≡ gap_after (marks item first) (marks item second) k t
gap_here item first second k t before after e f pos lt =
    omega (arith, e, f, before_switch (marks item first) k t pos lt, ap (λ (n : ℕ). k * n) (length_marks item first))

-- The least gap across a switch, measured forward

abbrev pub first_gap : List Bool → List Bool → ℕ → ℕ
first_gap first second k = position second 0 + back first k

pub least_forward : (first second : List Bool) (k : ℕ) → least (first_gap first second k) k (gap_after first second k) ≡ least_gap_across first second k
least_forward first second k = le_antisymm
    (backward (least_reached (first_gap first second k) k (gap_before first second k)))
    (forward (least_reached (first_gap first second k) k (gap_after first second k)))
  where
    walked : ℕ
    walked = least (first_gap first second k) k (gap_after first second k)

    found : ℕ
    found = least (first_gap first second k) k (gap_before first second k)

    one_before : (t x : ℕ) → t < k → t + suc x ≡ k → found ≤ gap_after first second k t
    one_before t x lt e = omega (arith, one_gap first second k t x e, least_at_most (first_gap first second k) k (gap_before first second k) x (omega arith))

    one_after : (x t : ℕ) → x < k → t + suc x ≡ k → walked ≤ gap_before first second k x
    one_after x t lt e = omega (arith, one_gap first second k t x e, least_at_most (first_gap first second k) k (gap_after first second k) t (omega arith))

    forward : (walked ≡ first_gap first second k) ⊎ Reached k (gap_after first second k) walked → found ≤ walked
    forward (inl e) = omega (arith, e, least_below (first_gap first second k) k (gap_before first second k))
    forward (inr r) = omega (arith, r.same, one_before r.at (k - suc r.at) r.below (omega (arith, r.below)))

    backward : (found ≡ first_gap first second k) ⊎ Reached k (gap_before first second k) found → walked ≤ found
    backward (inl e) = omega (arith, e, least_below (first_gap first second k) k (gap_after first second k))
    backward (inr r) = omega (arith, r.same, one_after r.at (k - suc r.at) r.below (omega (arith, r.below)))

pub first_here : (item : Item) (first second : List Slot) (k count before after : ℕ) → count ≡ per_period (marks item first) →
    before ≡ position (marks item first) (k * count - k) → after ≡ position (marks item second) 0 → 0 < per_period (marks item first) → 0 < k →
    after + (k * length first - before) ≡ first_gap (marks item first) (marks item second) k
first_here item first second k count before after e f g pos some =
    let n : k * count - k ≡ k * per_period (marks item first) - k + 0 = ap (λ (m : ℕ). k * m - k) e ∙ omega arith in
    let m : k - 0 ≡ k = omega arith in
    gap_here item first second k 0 before after (f ∙ ap (position (marks item first)) n) g pos some
    ∙ ap (λ (x : ℕ). position (marks item second) 0 + back (marks item first) x) m

pub before_first : (item : Item) (slots : List Slot) (k count before : ℕ) → count ≡ per_period (marks item slots) →
    before ≡ position (marks item slots) (k * count - k) → 0 < per_period (marks item slots) → 0 < k → before ≤ k * length slots
before_first item slots k count before e f pos some =
    let n : k * count - k ≡ k * per_period (marks item slots) - k + 0 = ap (λ (m : ℕ). k * m - k) e ∙ omega arith in
    omega (arith, f ∙ ap (position (marks item slots)) n, before_end item slots k 0 pos some)
