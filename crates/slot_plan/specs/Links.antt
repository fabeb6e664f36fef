-- Links of a period: from each slot the way over slots with contents of other kinds, to the next one of the same kind.
use Rattle.std.specs.Prelude.{◌≡◌, ℕ, suc, ◌+◌, ◌-◌, ◌*◌, ◌<◌, ◌≤◌, ◌==◌, false, List, length, slice_index_or, Option, None, Some}
use Rattle.slot_plan.specs.declared.slot.Slot.{Slot}
use Rattle.slot_plan.specs.declared.slot.Slot.TheVariants.{Stream, Pcr, Table, Null}

-- a number for each kind of content of a slot: each stream's packets and each program's PCR are one, all tables are one
abbrev pub slot_key : Slot → ℕ
slot_key (Stream n) = 2 * n + 2
slot_key (Pcr n) = 2 * n + 3
slot_key (Table n) = 1
slot_key Null = 0

-- the number of the kind of the content of slot s
abbrev pub key_at : List Slot → ℕ → ℕ
key_at slots s = slot_key (slice_index_or slots s Null)

-- no slot from `from` on and before `to` has content of the kind with that number
pub record IsAbsent (slots : List Slot) (key from to : ℕ) : Type 0 where
  pub after : from ≤ to
  pub within : to ≤ length slots
  pub others : (t : ℕ) → from ≤ t → t < to → (key_at slots t == key) ≡ false

-- the links of the slots from the last slot to the first: each leads from a slot over slots with contents of other kinds
abbrev pub AreLinks : List Slot → Option (List ℕ) → Type 0
AreLinks slots None = Unit {0}
AreLinks slots (Some links) = (s : ℕ) → s < length slots → IsAbsent slots (key_at slots s) (suc s) (slice_index_or links (length slots - suc s) 0)
