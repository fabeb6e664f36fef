-- The rounds of a table: its sections take packets one after another, and the table's own slots, counted over the run,
-- carry the packets in turn.
use Rattle.std.specs.Prelude.{◌≡◌, ℕ, suc, ◌+◌, ◌-◌, ◌*◌, ◌<◌, ◌≤◌, Bool, true, take, sum_by}
use Rattle.clock27.specs.Units.{slot_ms_at_1bps}
use Rattle.own_slots.specs.Rounds.{starts}
use Rattle.description_parts.specs.Described.{Described}
use Rattle.description_parts.specs.Tables.{packets_of_section, section_count, section_lengths, section_packets, round_packets}
use Rattle.slot_plan.specs.declared.slot.Item.TheVariants.{Table}
use Rattle.slot_plan.specs.Schedule.{Schedule, owned}
use Rattle.slot_plan.specs.SectionDistances.{least_distance, sub_table}

-- the number in a round of the first packet of section j of a table, and of its last packet
abbrev pub first_packet : Described → ℕ → ℕ → ℕ
first_packet d t j = sum_by packets_of_section (take j (section_lengths d t))

abbrev pub last_packet : Described → ℕ → ℕ → ℕ
last_packet d t j = first_packet d t j + section_packets d t j - 1

-- the slots where section j of a table begins
abbrev pub section_starts : Described → Schedule → ℕ → ℕ → ℕ → Bool
section_starts d schedule t j = starts (owned schedule (Table t)) (round_packets d t) (first_packet d t j)

-- a table with these own slots: after the slot in which a section ends, and before a slot in which a section of the same sub-table begins,
-- at least 25 ms pass (ETSI EN 300 468, 5.1.4.1)
abbrev pub SectionsApart : Described → ℕ → (ℕ → Bool) → Type 0
SectionsApart d t own = (j next from to : ℕ) → j < section_count d t → next < section_count d t → sub_table d t j ≡ sub_table d t next →
    starts own (round_packets d t) (last_packet d t j) from ≡ true → starts own (round_packets d t) (first_packet d t next) to ≡ true → from < to →
    least_distance * d.rate ≤ (to - suc from) * slot_ms_at_1bps
