-- Gaps of own slots, round the period's end.
use Rattle.std.specs.Prelude.{◌≡◌, ℕ, ◌+◌, ◌-◌, ◌<◌, ◌≤◌, Bool, cond, List, length}
use Rattle.own_slots.specs.Slots.{own_before, AtLeastPerWindow}
use Rattle.own_slots.specs.Period.{own, per_period, position}
use Rattle.own_slots.specs.Extremes.{greatest}

-- the greatest distance in slots from an own slot to the k-th own slot after it
abbrev pub gap : List Bool → ℕ → ℕ
gap marks k = greatest (per_period marks) (λ i. position marks (i + k) - position marks i)

-- the distance from slot s to the k-th own slot after it, where s is an own slot; otherwise 0
abbrev pub ahead : List Bool → ℕ → ℕ → ℕ
ahead marks k s = cond (own marks s) (position marks (own_before (own marks) s + k) - s) 0

-- where k own slots in a row are never more than g slots apart, each window of g slots has k of them
abbrev pub GapLaw : Type 0
GapLaw = (marks : List Bool) (k g : ℕ) → 0 < per_period marks → gap marks k ≤ g → AtLeastPerWindow (own marks) g k

-- the greatest gap is found by one walk over the slots of the period
abbrev pub GapWalkLaw : Type 0
GapWalkLaw = (marks : List Bool) (k : ℕ) → 0 < per_period marks → greatest (length marks) (ahead marks k) ≡ gap marks k
