-- What each slot of a run carries: one plan repeated, or one plan for a whole number of its periods and then a second.
use Rattle.std.specs.Prelude.{◌≡◌, ℕ, ◌-◌, ◌*◌, ◌%◌, Bool, List, Option, None, Some, length, nat_lt, slice_index_or, if◌then◌else◌}
use Rattle.own_slots.specs.Period.{own}
use Rattle.own_slots.specs.Switch.{joined}
use Rattle.slot_plan.specs.declared.slot.Slot.{Slot}
use Rattle.slot_plan.specs.declared.slot.Slot.TheVariants.{Null}
use Rattle.slot_plan.specs.declared.slot.Item.{Item}
use Rattle.slot_plan.specs.Items.{is_own, marks}

-- a second plan, and the slot where it begins
pub record Following : Type 0 where
  pub slots : List Slot
  pub from : ℕ

-- the slots of the first plan's period, and the plan that follows it, if any
pub record Schedule : Type 0 where
  pub first : List Slot
  pub following : Option Following

-- one plan alone
abbrev pub single : List Slot → Schedule
single slots = record { first = slots; following = None }

-- a second plan after that number of periods of the first
abbrev pub switched : List Slot → ℕ → List Slot → Schedule
switched first periods second = record { first = first; following = Some (record { slots = second; from = periods * length first }) }

-- what slot s of a repeated period carries
abbrev pub repeated : List Slot → ℕ → Slot
repeated slots s = slice_index_or slots (s % length slots) Null

-- what slot s of the run carries
abbrev pub slot_of : Schedule → ℕ → Slot
slot_of schedule s = elim schedule.following [
  | None ↦ repeated schedule.first s
  | Some next ↦ if nat_lt s next.from then repeated schedule.first s else repeated next.slots (s - next.from)
]

-- the own slots of an item over the run
abbrev pub owned : Schedule → Item → ℕ → Bool
owned schedule item s = is_own item (slot_of schedule s)

-- the own slots of an item over the run are its slots of the period, repeated; with a second plan, its slots of both plans joined
pub record OwnedLaw : Type 0 where
  pub alone : (slots : List Slot) (item : Item) → owned (single slots) item ≡ own (marks item slots)
  pub in_turn : (first second : List Slot) (periods : ℕ) (item : Item) →
      owned (switched first periods second) item ≡ joined (own (marks item first)) (own (marks item second)) (periods * length first)
