-- A plan is one period of slots, repeated for all time. For one item the period is a list of marks: at each slot,
-- whether it is the item's own.
use Rattle.std.specs.Prelude.{◌≡◌, ℕ, suc, ◌+◌, ◌-◌, ◌*◌, ◌/◌, ◌%◌, ◌<◌, Bool, true, false, List, [], ◌∷◌, length, slice_index_or}
use Rattle.own_slots.specs.Slots.{own_before, Enumerates}

-- the item's own slots over all time, the period repeated
abbrev pub own : List Bool → ℕ → Bool
own marks s = slice_index_or marks (s % length marks) false

-- the places of the marked slots, counted from b
unfoldable pub places : ℕ → List Bool → List ℕ
places b [] = []
places b (true ∷ marks) = b ∷ places (suc b) marks
places b (false ∷ marks) = places (suc b) marks

-- the number of own slots of a period
abbrev pub per_period : List Bool → ℕ
per_period marks = length (places 0 marks)

-- the slot of own slot number i, continued over all time: one period further for each per_period own slots
abbrev pub position : List Bool → ℕ → ℕ
position marks i = slice_index_or (places 0 marks) (i % per_period marks) 0 + i / per_period marks * length marks

-- how far before slot 0 the own slot number -x is, where the period is continued below 0 (x from 1 on): x periods
-- later it is own slot number x * per_period - x
abbrev pub back : List Bool → ℕ → ℕ
back marks x = x * length marks - position marks (x * per_period marks - x)

-- the positions enumerate the own slots over all time
abbrev pub PositionsLaw : Type 0
PositionsLaw = (marks : List Bool) → 0 < per_period marks → Enumerates (own marks) (position marks)

-- where an own slot is x own slots before the end of y periods, it is `back marks x` slots before it
abbrev pub BackLaw : Type 0
BackLaw = (marks : List Bool) (x y s : ℕ) → 0 < per_period marks → 0 < x → own marks s ≡ true → own_before (own marks) s + x ≡ y * per_period marks →
    s + back marks x ≡ y * length marks
