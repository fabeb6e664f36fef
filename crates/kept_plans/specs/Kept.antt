-- Plans in which what stays on air keeps its slots.
use Rattle.std.specs.Prelude.{◌≡◌, ℕ, ◌<◌, ◌==◌, Bool, true, false, List, length, map, Option, None, Some, slice_get, slice_index_or, if◌then◌else◌}
use Rattle.std.specs.List.{list_all, range_with_len}
use Rattle.description_parts.specs.Described.{Described, DescribedProgram, DescribedStream}
use Rattle.description_parts.specs.Tables.{table_kind}
use Rattle.description_parts.specs.declared.table_kind.TableKind.{TableKind}
use Rattle.description_parts.specs.declared.table_kind.TableKind.TheVariants as kind
use Rattle.slot_plan.specs.declared.slot.Slot.{Slot}
use Rattle.slot_plan.specs.declared.slot.Slot.TheVariants.{Stream, Pcr, Table, Null}
use Rattle.slot_plan.specs.Conditions.{IsServing}
use Rattle.slot_plan.specs.Planned.{Planned}
use Rattle.slot_plan.specs.Schedule.{repeated}
use Rattle.plan_checker.specs.Served.{Served}
use Rattle.line_ups.specs.Kept.{slot_in}

-- the stream has the number of the program
abbrev pub is_of_number : ℕ → Option DescribedStream → Bool
is_of_number number None = false
is_of_number number (Some s) = s.program == number

-- the table is the PMT of the program at this place
abbrev pub is_map_of : ℕ → Option TableKind → Bool
is_map_of p (Some (kind.Pmt q)) = p == q
is_map_of p other = false

-- a slot carries a packet of the program at this place: of its streams, its clock references, its PMT
abbrev pub carries : Described → ℕ → Option DescribedProgram → Slot → Bool
carries d p None slot = false
carries d p (Some program) (Stream k) = is_of_number program.number (slice_get d.streams k)
carries d p (Some program) (Pcr i) = p == i
carries d p (Some program) (Table t) = is_map_of p (table_kind d t)
carries d p (Some program) Null = false

-- a slot may be given up for the program at this place, if there is one
abbrev pub is_given_up : Described → Option ℕ → Slot → Bool
is_given_up d None slot = false
is_given_up d (Some p) slot = carries d p (slice_get d.programs p) slot

-- what the description has on the PID of a slot of the line-up on air, and keeps there: null packets if that PID goes, or is given up
abbrev pub unless_given_up : Described → Option ℕ → Slot → Slot
unless_given_up d given slot = if is_given_up d given slot then Null else slot

abbrev pub fixed_slot : Served → Described → Option ℕ → ℕ → Slot
fixed_slot old d given s = unless_given_up d given (slot_in d old.description (repeated old.plan.slots s))

abbrev pub fixed_slots : Served → Described → Option ℕ → ℕ → List Slot
fixed_slots old d given period = map (fixed_slot old d given) (range_with_len 0 period)

-- a slot has its content, unless nothing is fixed there
abbrev pub has_content : Slot → Slot → Bool
has_content Null slot = true
has_content (Stream i) (Stream j) = i == j
has_content (Pcr i) (Pcr j) = i == j
has_content (Table t) (Table u) = t == u
has_content fixed slot = false

abbrev pub has_content_at : List Slot → List Slot → ℕ → Bool
has_content_at fixed slots s = has_content (slice_index_or fixed s Null) (slice_index_or slots s Null)

-- each of these slots has its content
abbrev pub has_contents : List Slot → List Slot → Bool
has_contents fixed slots = list_all (has_content_at fixed slots) (range_with_len 0 (length fixed))

-- what stays keeps its slots, except those of a program that gives them up
abbrev pub keeps_slots : Served → Described → Option ℕ → List Slot → Bool
keeps_slots old d given slots = has_contents (fixed_slots old d given (length slots)) slots

-- a plan serves the description and keeps all slots but those of the program at this place
pub record IsInTheWay (old : Served) (d : Described) (place : ℕ) : Type 0 where
  pub within : place < length d.programs
  pub plan : Planned
  pub serving : IsServing d plan
  pub kept : keeps_slots old d (Some place) plan.slots ≡ true
