-- The PIDs of slots: each slot that names a part of the description has that part's PID, and no two parts share one.
use Rattle.std.specs.Prelude.{◌≡◌, ℕ, ◌<◌, Option, None, Some, option_map, slice_get}
use Rattle.description_parts.specs.Described.{Described}
use Rattle.description_parts.specs.Ranges.{IsInRange}
use Rattle.description_parts.specs.Tables.{table_kind, table_pid}
use Rattle.description.specs.Pids.{references_pid}
use Rattle.slot_plan.specs.declared.slot.Slot.{Slot}
use Rattle.slot_plan.specs.declared.slot.Slot.TheVariants.{Stream, Pcr, Table, Null}

-- the PID of what a slot names, if the description has it: a program on another's clock has no slot for clock references
unfoldable pub slot_pid : Described → Slot → Option ℕ
slot_pid d (Stream k) = option_map (λ s. s.pid) (slice_get d.streams k)
slot_pid d (Pcr i) = references_pid d i
slot_pid d (Table t) = option_map (λ k. table_pid d t) (table_kind d t)
slot_pid d Null = None

-- slots of one PID are one
abbrev pub SlotsApartLaw : Type 0
SlotsApartLaw = (d : Described) (a b : Slot) (pid : ℕ) → IsInRange d → slot_pid d a ≡ Some pid → slot_pid d b ≡ Some pid → a ≡ b

-- none is the PID of null packets
abbrev pub SlotsBelowLaw : Type 0
SlotsBelowLaw = (d : Described) (a : Slot) (pid : ℕ) → IsInRange d → slot_pid d a ≡ Some pid → pid < 8191
