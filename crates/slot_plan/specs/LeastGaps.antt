-- The least distance of an item's own slots, round the period's end and across a switch.
use Rattle.std.specs.Prelude.{ℕ, suc, ◌+◌, ◌-◌, Bool, List}
use Rattle.own_slots.specs.Period.{per_period, position, back}
use Rattle.own_slots.specs.Extremes.{least}

-- the least distance in slots from an own slot to the k-th own slot after it, round the period's end too; own slot number k is no nearer to
-- slot 0
abbrev pub least_gap : List Bool → ℕ → ℕ
least_gap marks k = least (position marks k) (per_period marks) (λ i. position marks (i + k) - position marks i)

-- the same across a switch: from own slot -x of the first plan to own slot k - x of the second, x from 1 to k
abbrev pub least_gap_across : List Bool → List Bool → ℕ → ℕ
least_gap_across first second k = least (position second 0 + back first k) k (λ x. position second (k - suc x) + back first (suc x))
