-- Why a line-up may not take the place of another on air, between any two slots. What stays keeps its own slots, over all time; so each promise about it is a
-- promise of the new line-up alone, and no condition is on both.
use Rattle.std.specs.Prelude.{ℕ, ◌%◌, ◌==◌, ◌&&◌, ◌||◌, nat_lt, max, not, Bool, false, List, Option, None, Some, length, find}
use Rattle.std.specs.Prelude.{option_map, unwrap_or, if◌then◌else◌}
use Rattle.std.specs.Bool.{beq}
use Rattle.std.specs.List.{list_all, zip, range_with_len}
use Rattle.std.specs.Option.{option_or}
use Rattle.description_parts.specs.Described.{Described}
use Rattle.description_parts.specs.Tables.{table_count, section_lengths, packets_of_section}
use Rattle.slot_plan.specs.declared.slot.Slot.{Slot}
use Rattle.slot_plan.specs.declared.slot.Slot.TheVariants.{Null}
use Rattle.slot_plan.specs.SlotPids.{slot_pid}
use Rattle.changed_texts.specs.Fixed.{is_same_option}
use Rattle.plan_checker.specs.Served.{Served}
use Rattle.line_ups.specs.Kept.{numbered_slot, slot_count, slot_in, has_pid, carried, is_same_slot, table_before, program_number, program_before}
use Rattle.line_ups.specs.declared.fault.LineUpFault.{LineUpFault}
use Rattle.line_ups.specs.declared.fault.LineUpFault.TheVariants as fault

-- ---- the whole: the rate, the clock of the output, and the names of the transport stream

abbrev pub has_same_names : Described → Described → Bool
has_same_names old new = old.transport_stream_id == new.transport_stream_id && old.original_network_id == new.original_network_id
    && beq old.is_transponder new.is_transponder

abbrev pub whole_fault : Described → Described → Option LineUpFault
whole_fault old new =
    if not (old.rate == new.rate) then Some fault.Rate
    else (if not (old.base0 == new.base0) then Some fault.Clock
    else (if has_same_names old new then None else Some fault.Stream))

-- ---- PIDs

-- the PID of a slot, that of null packets if it has none (ISO/IEC 13818-1, table 2-3)
abbrev pub pid_of : Described → Slot → ℕ
pid_of d slot = unwrap_or (slot_pid d slot) 8191

-- the new description has on the PID of its slot of number n something else than the old one
abbrev pub is_other : Described → Described → Slot → Slot → Bool
is_other old new Null slot = false
is_other old new before slot = not (is_same_slot old new before slot)

abbrev pub is_reused : Described → Described → ℕ → Bool
is_reused old new n = is_other old new (slot_in old new (numbered_slot new n)) (numbered_slot new n)

abbrev pub pid_fault : Described → Described → Option LineUpFault
pid_fault old new = option_map (λ n. fault.Pid (pid_of new (numbered_slot new n))) (find (is_reused old new) (range_with_len 0 (slot_count new)))

-- ---- slots

abbrev pub is_same_pid : Option ℕ → Option ℕ → Bool
is_same_pid one other = is_same_option (λ a b. a == b) one other

-- one line-up carries a PID that both have where the other one does not carry it
abbrev pub differs : Described → Described → Option ℕ → Option ℕ → Bool
differs old new one other = not (is_same_pid one other) && (has_pid old other || has_pid new one)

abbrev pub differs_at : Served → Served → ℕ → Bool
differs_at old new s = differs old.description new.description (carried old s) (carried new s)

-- the PID that has other slots: that of the new line-up, if it stays, otherwise that of the old one
abbrev pub moved_pid : Served → Served → ℕ → ℕ
moved_pid old new s = unwrap_or (if has_pid old.description (carried new s) then carried new s else carried old s) 8191

-- one period is the other one, a whole number of times
abbrev pub divides : ℕ → ℕ → Bool
divides one other = nat_lt 0 one && nat_lt 0 other && ((one % other == 0) || (other % one == 0))

abbrev pub longer_period : Served → Served → ℕ
longer_period old new = max (length old.plan.slots) (length new.plan.slots)

abbrev pub moved_fault : Served → Served → Option LineUpFault
moved_fault old new = option_map (λ s. fault.Moved (moved_pid old new s)) (find (differs_at old new) (range_with_len 0 (longer_period old new)))

abbrev pub slots_fault : Served → Served → Option LineUpFault
slots_fault old new = if divides (length old.plan.slots) (length new.plan.slots) then moved_fault old new else Some fault.Period

-- ---- tables

-- a table that stays has as many sections, each with as many packets
abbrev pub has_same_places : List ℕ → List ℕ → Bool
has_same_places olds news = length olds == length news && list_all (λ p. packets_of_section p.0 == packets_of_section p.1) (zip olds news)

abbrev pub loses_shape : Described → Described → ℕ → Bool
loses_shape old new t = elim (table_before old new t) [ None ↦ false | Some i ↦ not (has_same_places (section_lengths old i) (section_lengths new t)) ]

abbrev pub shape_fault : Described → Described → Option LineUpFault
shape_fault old new = option_map fault.Shape (find (loses_shape old new) (range_with_len 0 (table_count new)))

-- a program comes later in the list than it was: its sections of the EIT would begin later in a round
abbrev pub is_later : Described → Described → ℕ → Bool
is_later old new j = elim (program_before old new j) [ None ↦ false | Some i ↦ nat_lt i j ]

abbrev pub order_fault : Described → Described → Option LineUpFault
order_fault old new = option_map (λ j. fault.Order (unwrap_or (program_number new j) 0)) (find (is_later old new) (range_with_len 0 (length new.programs)))

-- ---- why a line-up may not take the place of another: the first fault

-- a fault before that of slots, and one after it
abbrev pub name_fault : Described → Described → Option LineUpFault
name_fault old new = option_or (whole_fault old new) (pid_fault old new)

abbrev pub round_fault : Described → Described → Option LineUpFault
round_fault old new = option_or (shape_fault old new) (order_fault old new)

abbrev pub line_up_fault : Served → Served → Option LineUpFault
line_up_fault old new =
    option_or (name_fault old.description new.description) (option_or (slots_fault old new) (round_fault old.description new.description))

-- that of the descriptions alone, whatever their plans
abbrev pub description_fault : Described → Described → Option LineUpFault
description_fault old new = option_or (name_fault old new) (round_fault old new)
