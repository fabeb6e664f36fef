-- Walks over the own slots of an item.
use Rattle.std.specs.Prelude.{◌≡◌, ℕ, ◌<◌, ◌≤◌, ◌==◌, Bool, true, false, List, length}
use Rattle.own_slots.specs.Period.{own}
use Rattle.slot_plan.specs.declared.slot.Slot.{Slot}
use Rattle.slot_plan.specs.declared.slot.Item.{Item}
use Rattle.slot_plan.specs.declared.slot.Slot.TheVariants.{Stream, Pcr, Table}
use Rattle.slot_plan.specs.declared.slot.Item.TheVariants.{Stream as StreamItem, Pcr as PcrItem, Table as TableItem, System}
use Rattle.slot_plan.specs.Items.{marks}

-- whether a slot's content is of the kind of the item's own slots, to which the slot's link leads
abbrev pub has_kind : Item → Slot → Bool
has_kind (StreamItem own) (Stream number) = own == number
has_kind (PcrItem own) (Pcr number) = own == number
has_kind (TableItem own) (Table number) = true
has_kind (System program) (Table number) = true
has_kind _ _ = false

-- no slot from `from` on and before `to` is the item's own
pub record IsForeign (item : Item) (slots : List Slot) (from to : ℕ) : Type 0 where
  pub after : from ≤ to
  pub within : to ≤ length slots
  pub others : (t : ℕ) → from ≤ t → t < to → own (marks item slots) t ≡ false
