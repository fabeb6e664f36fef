-- Gaps of own slots, from one period to all time
use Rattle.std.proofs.Common.{false, max, ◌≡◌, ℕ, ◌+◌, ◌-◌, ◌*◌, ◌/◌, ◌%◌, ◌<◌, ◌≤◌, Bool, true, List, length, ap, sym, ◌∙◌, inl, inr, arith, le_antisymm}
use Rattle.std.proofs.Math.Nat.{mod-add-div'}
use Rattle.std.proofs.lemmas.Nat.{mod_below}
use Rattle.std.proofs.lemmas.Bool.{cases_Bool, cond-true, cond-false}
use Rattle.own_slots.specs.Slots.{own_before}
use Rattle.own_slots.specs.Period.{own, per_period, position}
use Rattle.own_slots.specs.Extremes.{greatest}
use Rattle.own_slots.specs.Gaps.{gap, ahead, GapLaw, GapWalkLaw}
use Rattle.own_slots.proofs.Extremes.{at_most_greatest, greatest_at_most, greatest_more}
use Rattle.own_slots.proofs.Counts.{own_before_lt, windows_serve}
use Rattle.own_slots.proofs.PositionLemmas.{own_before_period, positions_law, position_below, position_turns}

-- A bound on the gaps of one period bounds the gaps of all own slots.
pub gaps_all : (marks : List Bool) (k g : ℕ) → 0 < per_period marks → gap marks k ≤ g → (i : ℕ) → position marks (i + k) ≤ position marks i + g
gaps_all marks k g pos le i =
    let r : ℕ = i % per_period marks in
    let y : ℕ = i / per_period marks in
    let split : r + y * per_period marks ≡ i = mod-add-div' i (per_period marks) in
    let near : position marks (r + k) - position marks r ≤ greatest (per_period marks) (λ j. position marks (j + k) - position marks j) =
    at_most_greatest (per_period marks) (λ j. position marks (j + k) - position marks j) r (mod_below i (per_period marks) pos) in
    let here : position marks i ≡ position marks r + y * length marks = ap (position marks) (sym split) ∙ position_turns marks r y pos in
    let there : position marks (i + k) ≡ position marks (r + k) + y * length marks =
    ap (position marks) (far r y (per_period marks) i k split) ∙ position_turns marks (r + k) y pos in
    omega (arith, near, here, there, le)
  where
    far : (r y c i k : ℕ) → r + y * c ≡ i → i + k ≡ (r + k) + y * c
    far r y c i k e = omega arith

-- The first k own slots lie within g slots of the run's beginning.
pub gap_first : (marks : List Bool) (k g : ℕ) → 0 < per_period marks → gap marks k ≤ g → 0 < k → position marks (k - 1) < g
gap_first marks k g pos le some =
    let c : ℕ = per_period marks in
    let last : position marks (c - 1) < length marks = position_below marks (c - 1) pos (omega arith) in
    let e : (c - 1) + k ≡ (k - 1) + 1 * c = omega arith in
    let turn : position marks ((c - 1) + k) ≡ position marks (k - 1) + 1 * length marks = ap (position marks) e ∙ position_turns marks (k - 1) 1 pos in
    omega (arith, gaps_all marks k g pos le (c - 1), turn, last)

pub gap_law : GapLaw
gap_law marks k g pos le = windows_serve (own marks) (position marks) k g (positions_law marks pos) (gaps_all marks k g pos le) (gap_first marks k g pos le)

-- ---- One walk over the slots

ahead_own : (marks : List Bool) (k s : ℕ) → own marks s ≡ true → ahead marks k s ≡ position marks (own_before (own marks) s + k) - s
ahead_own marks k s y = cond-true (own marks s) (position marks (own_before (own marks) s + k) - s) 0 y

ahead_position : (marks : List Bool) (k i : ℕ) → 0 < per_period marks → ahead marks k (position marks i) ≡ position marks (i + k) - position marks i
ahead_position marks k i pos = ahead_own marks k (position marks i) ((positions_law marks pos).is_own i)
    ∙ ap (λ (n : ℕ). position marks (n + k) - position marks i) ((positions_law marks pos).counted i)

pub gap_walk_law : GapWalkLaw
gap_walk_law marks k pos = le_antisymm
    (greatest_at_most (length marks) (ahead marks k) (gap marks k) (λ s lt. elim (cases_Bool (own marks s)) [
      | inl y ↦ each s lt y
      | inr n ↦ omega (arith, cond-false (own marks s) (position marks (own_before (own marks) s + k) - s) 0 n)
    ]))
    (greatest_at_most (per_period marks) (λ i. position marks (i + k) - position marks i) (greatest (length marks) (ahead marks k)) (λ i lt.
    omega (arith, ahead_position marks k i pos, at_most_greatest (length marks) (ahead marks k) (position marks i) (position_below marks i pos lt))))
  where
    each : (s : ℕ) → s < length marks → own marks s ≡ true → ahead marks k s ≤ gap marks k
    each s lt y =
        let i : ℕ = own_before (own marks) s in
        let few : i < per_period marks = omega (arith, own_before_lt (own marks) s (length marks) y lt, own_before_period marks) in
        let near : position marks (i + k) - position marks i ≤ gap marks k =
        at_most_greatest (per_period marks) (λ j. position marks (j + k) - position marks j) i few in
        omega (arith, ahead_own marks k s y, near, (positions_law marks pos).found s y)

-- One more slot of the walk

pub gap_more : (marks : List Bool) (k s : ℕ) → own marks s ≡ true →
    greatest (s + 1) (ahead marks k) ≡ max (greatest s (ahead marks k)) (position marks (own_before (own marks) s + k) - s)
gap_more marks k s y = greatest_more s (ahead marks k) ∙ ap (max (greatest s (ahead marks k))) (ahead_own marks k s y)

pub gap_same : (marks : List Bool) (k s : ℕ) → own marks s ≡ false → greatest (s + 1) (ahead marks k) ≡ greatest s (ahead marks k)
gap_same marks k s n =
    greatest_more s (ahead marks k) ∙ ap (max (greatest s (ahead marks k))) (cond-false (own marks s) (position marks (own_before (own marks) s + k) - s) 0 n)
    ∙ omega arith
