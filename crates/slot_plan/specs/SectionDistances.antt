-- How soon the sections of a transponder's tables follow each other: from the end of a section of service information to the begin of the
-- next section of the same PID, table_id and table_id_extension at least 25 ms pass (ETSI EN 300 468, 5.1.4.1).
use Rattle.std.specs.Prelude.{ℕ, suc, ◌+◌, ◌-◌, ◌*◌, ◌/◌, ◌&&◌, Bool, List, [], ◌∷◌, None, Some, nat_le, if◌then◌else◌}
use Rattle.clock27.specs.Units.{slot_ms_at_1bps}
use Rattle.own_slots.specs.Extremes.{greatest}
use Rattle.description_parts.specs.Described.{Described}
use Rattle.description_parts.specs.Tables.{eit_place, table_kind, table_pid, section_count, section_packets, round_packets}
use Rattle.description_parts.specs.declared.table_kind.TableKind.{TableKind}
use Rattle.description_parts.specs.declared.table_kind.TableKind.TheVariants.{Eit}
use Rattle.slot_plan.specs.declared.slot.Item.TheVariants.{Table}
use Rattle.slot_plan.specs.declared.condition.Condition.TheVariants.{SectionDistance}
use Rattle.slot_plan.specs.Planned.{Planned}
use Rattle.slot_plan.specs.Items.{marks}
use Rattle.slot_plan.specs.LeastGaps.{least_gap, least_gap_across}
use Rattle.slot_plan.specs.Entries.{Entry, at_most}

-- the least time from the end of a section to the begin of the next one, in ms
abbrev pub least_distance : ℕ
least_distance = 25

-- the tables whose sections have to keep it: a transponder's on the PIDs of service information
abbrev pub is_spaced : Described → ℕ → Bool
is_spaced d t = d.is_transponder && (nat_le 0x10 (table_pid d t) && nat_le (table_pid d t) 0x14)

-- the sub-table of a section, by its number among those of the table: an EIT has a sub-table for each program with an event (EN 300 468,
-- 5.2.4), each other table is one
abbrev pub kind_sub_table : Described → ℕ → TableKind → ℕ
kind_sub_table d j Eit = (eit_place d j).0
kind_sub_table d j kind = 0

abbrev pub sub_table : Described → ℕ → ℕ → ℕ
sub_table d t j = elim (table_kind d t) [ None ↦ 0 | Some kind ↦ kind_sub_table d j kind ]

-- the places of the longest section of a table
abbrev pub most_packets : Described → ℕ → ℕ
most_packets d t = greatest (section_count d t) (section_packets d t)

-- the least number of places from the last place of a section to the first place of the next section of its sub-table. In a transponder's EIT
-- a section of each other program comes between: from the begin of a section it is half a round. In other tables it is the next place
abbrev pub kind_places : Described → ℕ → TableKind → ℕ
kind_places d t Eit = suc (round_packets d t / 2 - most_packets d t)
kind_places d t kind = 1

abbrev pub places_apart : Described → ℕ → ℕ
places_apart d t = elim (table_kind d t) [ None ↦ 1 | Some kind ↦ kind_places d t kind ]

-- code 18: own slots so many places apart are at least that time apart; the slot in which a section ends is not part of it. A table without
-- this condition has no entry
abbrev pub distance_entries : ℕ → Described → ℕ → ℕ → List Entry
distance_entries part d t slots =
    if is_spaced d t then at_most SectionDistance part t (least_distance * d.rate + slot_ms_at_1bps) (slots * slot_ms_at_1bps) ∷ [] else []

-- part 0: of one plan, round the period's end too
abbrev pub section_distance_entries : Described → Planned → ℕ → List Entry
section_distance_entries d p t = distance_entries 0 d t (least_gap (marks (Table t) p.slots) (places_apart d t))

-- part 1: across the switch from a plan to a second one
abbrev pub section_switch_entries : Described → Planned → Planned → ℕ → List Entry
section_switch_entries d first second t =
    distance_entries 1 d t (least_gap_across (marks (Table t) first.slots) (marks (Table t) second.slots) (places_apart d t))
