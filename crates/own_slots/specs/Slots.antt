-- An item of a plan (a stream, the PCRs of a program, a table, the system tables of a program) is a function of the slot number
-- over all time: is this slot the item's own? All timing of an item is expressed by one count, the own slots before a slot.
use Rattle.std.specs.Prelude.{◌≡◌, ℕ, zero, suc, ◌+◌, ◌*◌, ◌<◌, ◌≤◌, Bool, true, cond, List, [], ◌∷◌}

-- the number of own slots before slot s, and so the number (from 0) of the own slot at s
unfoldable pub own_before : (ℕ → Bool) → ℕ → ℕ
own_before own zero = 0
own_before own (suc s) = own_before own s + cond (own s) 1 0

-- each window of w slots, wherever it begins, has at least m own slots
abbrev pub AtLeastPerWindow : (ℕ → Bool) → ℕ → ℕ → Type 0
AtLeastPerWindow own w m = (s : ℕ) → own_before own s + m ≤ own_before own (s + w)

-- no window of w slots, wherever it begins, has more than m own slots
abbrev pub AtMostPerWindow : (ℕ → Bool) → ℕ → ℕ → Type 0
AtMostPerWindow own w m = (s : ℕ) → own_before own (s + w) ≤ own_before own s + m

-- a pace: m own slots come within each window of w slots, wherever base + m * cost < share * (w + 1); in words, m own
-- slots take m * cost / share slots, and base / share more
abbrev pub HasPace : (ℕ → Bool) → ℕ → ℕ → ℕ → Type 0
HasPace own share cost base = (m w : ℕ) → base + m * cost < share * (w + 1) → AtLeastPerWindow own w m

-- the own slots among the next n slots from slot s on
unfoldable pub own_slots : (ℕ → Bool) → ℕ → ℕ → List ℕ
own_slots own s zero = []
own_slots own s (suc n) = cond (own s) (s ∷ own_slots own (suc s) n) (own_slots own (suc s) n)

-- a rising list of own slots, none before slot `from`
unfoldable pub Rises : (ℕ → Bool) → ℕ → List ℕ → Type 0
Rises own from [] = Unit {0}
Rises own from (s ∷ slots) = (from ≤ s) × (own s ≡ true) × Rises own (suc s) slots

-- own slot number i is slot P i, for each i
pub record Enumerates (own : ℕ → Bool) (P : ℕ → ℕ) : Type 0 where
  pub is_own : (i : ℕ) → own (P i) ≡ true
  pub counted : (i : ℕ) → own_before own (P i) ≡ i
  pub found : (s : ℕ) → own s ≡ true → P (own_before own s) ≡ s

-- the own slots among the next n slots from s on rise, and none is before s
abbrev pub ListLaw : Type 0
ListLaw = (own : ℕ → Bool) (s n : ℕ) → Rises own s (own_slots own s n)
