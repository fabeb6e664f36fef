-- Which plans there are.
use Rattle.std.specs.Prelude.{◌≡◌, ◌<◌, None}
use Rattle.std.specs.Prelude.{All}
use Rattle.slot_plan.specs.declared.slot.Slot.{Slot}
use Rattle.slot_plan.specs.declared.slot.Slot.TheVariants.{Stream, Pcr, Table, Null}
use Rattle.slot_plan.specs.Planned.{Planned, plan_error}

-- the number of a slot's item is below 256
abbrev pub IsByteSlot : Slot → Type 0
IsByteSlot (Stream n) = n < 256
IsByteSlot (Pcr n) = n < 256
IsByteSlot (Table n) = n < 256
IsByteSlot Null = Unit {0}

-- a value that is a plan: at most 99,999 slots with numbers below 256, at most 256 entries of a kind with numbers below
-- 10^18
pub record IsPlan (p : Planned) : Type 0 where
  pub numbers : All IsByteSlot p.slots
  pub within : plan_error p.slots p.certificate ≡ None
