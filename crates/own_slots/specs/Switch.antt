-- Two plans: the first for a whole number of its periods, then the second. An item's own slots are counted on over the
-- switch.
use Rattle.std.specs.Prelude.{ℕ, ◌+◌, ◌-◌, ◌*◌, ◌<◌, ◌≤◌, max, Bool, cond, nat_lt, List, length}
use Rattle.own_slots.specs.Slots.{AtLeastPerWindow, AtMostPerWindow, HasPace}
use Rattle.own_slots.specs.Period.{own, per_period, position, back}
use Rattle.own_slots.specs.Gaps.{gap}
use Rattle.own_slots.specs.Spread.{spread}
use Rattle.own_slots.specs.Work.{HoldsWork, BoundsWork, periodic_work, work_left}

-- the own slots of two plans, the second from slot `at` on
abbrev pub joined : (ℕ → Bool) → (ℕ → Bool) → ℕ → ℕ → Bool
joined first second at s = cond (nat_lt s at) (first s) (second (s - at))

-- the work before slot s over two plans
abbrev pub joined_work : (ℕ → ℕ) → (ℕ → ℕ) → ℕ → ℕ → ℕ
joined_work first second at s = cond (nat_lt s at) (first s) (second (s - at))

-- by how many slots the second plan's last own slot is later, counted from its period's end, than the first plan's:
-- 0 if it is earlier
abbrev pub shift : List Bool → List Bool → ℕ
shift first second = back first 1 - back second 1

-- gaps across the switch: the second plan's own slot number k - x comes within g slots of the first plan's own slot
-- number -x, for each x from 1 to k
abbrev pub SwitchGapLaw : Type 0
SwitchGapLaw = (first second : List Bool) (periods k g : ℕ) → 0 < per_period first → 0 < per_period second →
    gap first k ≤ g → gap second k ≤ g → ((x : ℕ) → 1 ≤ x → x ≤ k → position second (k - x) + back first x ≤ g) →
    AtLeastPerWindow (joined (own first) (own second) (periods * length first)) g k

-- the pace of two plans: the slower of the two, both spreads, and the shift
abbrev pub SwitchPaceLaw : Type 0
SwitchPaceLaw = (first second : List Bool) (periods a b : ℕ) → 0 < per_period first → 0 < per_period second → spread first ≤ a → spread second ≤ b →
    HasPace (joined (own first) (own second) (periods * length first))
    (per_period first * per_period second)
    (max (length first * per_period second) (length second * per_period first))
    (a * per_period second + b * per_period first + per_period first * per_period second * shift first second)

-- work over the switch, at a period's end of the first plan: what its period leaves is at most what the second begins
-- with
abbrev pub SwitchWorkLaw : Type 0
SwitchWorkLaw = (rate drain room : ℕ) (start peak : ℕ) (first : List Bool) (next_start next_peak : ℕ) (second : List Bool) (periods : ℕ) →
    0 < length first → 0 < length second → HoldsWork rate drain room start peak first → HoldsWork rate drain room next_start next_peak second →
    work_left rate drain start first ≤ next_start →
    BoundsWork (joined (own first) (own second) (periods * length first)) rate drain room (max peak next_peak)
    (joined_work (periodic_work rate drain start first) (periodic_work rate drain next_start second) (periods * length first))

-- a window across the switch has at most what the two plans' windows have together; the switch may be at any slot
abbrev pub SwitchShareLaw : Type 0
SwitchShareLaw = (first second : ℕ → Bool) (at w m n : ℕ) → AtMostPerWindow first w m → AtMostPerWindow second w n →
    AtMostPerWindow (joined first second at) w (m + n)
