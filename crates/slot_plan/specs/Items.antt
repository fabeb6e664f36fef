-- The items of a service and the slots that they own.
use Rattle.std.specs.Prelude.{◌+◌, ◌==◌, ◌||◌, Bool, false, List, map}
use Rattle.slot_plan.specs.declared.slot.Slot.{Slot}
use Rattle.slot_plan.specs.declared.slot.Item.{Item}
use Rattle.slot_plan.specs.declared.slot.Slot.TheVariants.{Stream, Pcr, Table}
use Rattle.slot_plan.specs.declared.slot.Item.TheVariants.{Stream as StreamItem, Pcr as PcrItem, Table as TableItem, System}

-- whether a slot is an item's own; the packets of the PAT (table 0) and of a program's PMT (table 1 + its number) enter
-- the program's system buffers
abbrev pub is_own : Item → Slot → Bool
is_own (StreamItem own) (Stream number) = own == number
is_own (PcrItem own) (Pcr number) = own == number
is_own (TableItem own) (Table number) = own == number
is_own (System program) (Table number) = (number == 0) || (number == program + 1)
is_own _ _ = false

-- at each slot of a period, whether it is the item's own
abbrev pub marks : Item → List Slot → List Bool
marks item slots = map (is_own item) slots
