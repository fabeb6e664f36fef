-- Laws for a plan that serves a description.
use Rattle.std.specs.Prelude.{ℕ, ◌<◌, All, IsTrue, length}
use Rattle.description_parts.specs.Described.{Described}
use Rattle.description_parts.specs.Tables.{table_count, has_references}
use Rattle.slot_plan.specs.declared.slot.Slot.{Slot}
use Rattle.slot_plan.specs.declared.slot.Slot.TheVariants.{Stream, Pcr, Table, Null}
use Rattle.slot_plan.specs.Planned.{Planned}
use Rattle.slot_plan.specs.Conditions.{IsServing}
use Rattle.slot_plan.specs.SwitchConditions.{IsSwitchable}
use Rattle.slot_plan.specs.Schedule.{repeated}

-- a slot carries nothing, or a packet of an item that the description has
abbrev pub IsNamed : Described → Slot → Type 0
IsNamed d (Stream number) = number < length d.streams
IsNamed d (Pcr number) = (number < length d.programs) × IsTrue (has_references d number)
IsNamed d (Table number) = number < table_count d
IsNamed d Null = Unit {0}

-- a plan that serves has a slot
abbrev pub SomeSlotLaw : Type 0
SomeSlotLaw = (d : Described) (p : Planned) → IsServing d p → 0 < length p.slots

-- each of its slots names an item that there is
abbrev pub NamedLaw : Type 0
NamedLaw = (d : Described) (p : Planned) → IsServing d p → All (IsNamed d) p.slots

-- and so does each slot of a run
abbrev pub NamedInRunLaw : Type 0
NamedInRunLaw = (d : Described) (p : Planned) (s : ℕ) → IsServing d p → IsNamed d (repeated p.slots s)

-- a second plan that may follow a first serves too
abbrev pub SecondLaw : Type 0
SecondLaw = (d : Described) (first second : Planned) → IsSwitchable d first second → IsServing d second
