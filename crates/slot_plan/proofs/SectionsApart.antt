-- The sections of a transponder's sub-tables are 25 ms apart.
use Rattle.std.specs.Prelude.{map}
use Rattle.std.proofs.Common.{◌≡◌, ℕ, suc, ◌+◌, ◌-◌, ◌*◌, ◌/◌, ◌%◌, ◌<◌, ◌≤◌, min, Bool, true, List, ◌++◌, length, Option, None, Some, refl, ap, sym, ◌∙◌, arith}
use Rattle.std.proofs.lemmas.Bool.{and_parts}
use Rattle.std.proofs.lemmas.List.{length-map}
use Rattle.clock27.specs.Units.{slot_ms_at_1bps}
use Rattle.own_slots.specs.Slots.{own_before}
use Rattle.own_slots.specs.Period.{own, per_period}
use Rattle.own_slots.specs.Switch.{joined}
use Rattle.own_slots.proofs.Counts.{own_before_lt}
use Rattle.description_parts.specs.Described.{Described}
use Rattle.description_parts.specs.Tables.{eit_place, eit_room, schedule_length, scheduled_programs, table_kind, section_count, section_lengths}
use Rattle.description_parts.specs.Tables.{round_packets}
use Rattle.description_parts.specs.declared.table_kind.TableKind.{TableKind}
use Rattle.description_parts.specs.declared.table_kind.TableKind.TheVariants.{Pat, Pmt, Nit, Sdt, Eit, Tdt, Private}
use Rattle.slot_plan.specs.Entries.{first_failing}
use Rattle.slot_plan.specs.declared.condition.Condition.TheVariants.{SectionDistance}
use Rattle.slot_plan.specs.LeastGaps.{least_gap, least_gap_across}
use Rattle.slot_plan.specs.SectionDistances.{is_spaced, sub_table, most_packets, kind_places, places_apart, distance_entries}
use Rattle.slot_plan.specs.TableRounds.{first_packet, last_packet, SectionsApart}
use Rattle.slot_plan.proofs.HeldConditions.{at_most_holds}
use Rattle.slot_plan.proofs.LeastGaps.{least_of_both, near_law, near_across_law}
use Rattle.slot_plan.proofs.SectionPlaces.{halves_apart, starts_at}

-- 1. Places

-- A round of the EIT of a transponder has one section of each program, and then another.
eit_halves : (d : Described) (t : ℕ) → table_kind d t ≡ Some Eit → d.is_transponder ≡ true →
    section_lengths d t ≡ map (schedule_length (eit_room d)) (scheduled_programs d) ++ map (schedule_length (eit_room d)) (scheduled_programs d)
eit_halves d t e whole = rw e (rw whole refl)

eit_place_of : (d : Described) (j : ℕ) → d.is_transponder ≡ true → (eit_place d j).0 ≡ j % length (scheduled_programs d)
eit_place_of d j whole = rw whole refl

-- The sub-table of a section of the EIT is its place in its half of the round.
eit_sub_table : (d : Described) (t j : ℕ) → table_kind d t ≡ Some Eit → d.is_transponder ≡ true →
    sub_table d t j ≡ j % length (map (schedule_length (eit_room d)) (scheduled_programs d))
eit_sub_table d t j e whole = rw e (eit_place_of d j whole ∙ ap (λ (n : ℕ). j % n) (sym (length-map (scheduled_programs d) (schedule_length (eit_room d)))))

eit_apart : (d : Described) (t j next i b : ℕ) → table_kind d t ≡ Some Eit → d.is_transponder ≡ true → j < section_count d t → next < section_count d t →
    sub_table d t j ≡ sub_table d t next → i % round_packets d t ≡ last_packet d t j → b % round_packets d t ≡ first_packet d t next → i < b →
    i + places_apart d t ≤ b
eit_apart d t j next i b e whole lt next_lt same ends begins later =
    let many : places_apart d t ≡ suc (round_packets d t / 2 - most_packets d t) =
    ap (λ (o : Option TableKind). elim o [ None ↦ 1 | Some kind ↦ kind_places d t kind ]) e in
    rw many (halves_apart (map (schedule_length (eit_room d)) (scheduled_programs d)) (section_lengths d t) j next i b (eit_halves d t e whole) lt next_lt
    (sym (eit_sub_table d t j e whole) ∙ same ∙ eit_sub_table d t next e whole) ends begins later)

-- Between the last place of a section and the first place of the next section of its sub-table are so many places.
apart_in_round : (d : Described) (t j next i b : ℕ) (kind : Option TableKind) → table_kind d t ≡ kind → d.is_transponder ≡ true → j < section_count d t →
    next < section_count d t →
    sub_table d t j ≡ sub_table d t next → i % round_packets d t ≡ last_packet d t j → b % round_packets d t ≡ first_packet d t next → i < b →
    i + places_apart d t ≤ b
apart_in_round d t j next i b (Some Eit) e whole lt next_lt same ends begins later = eit_apart d t j next i b e whole lt next_lt same ends begins later
apart_in_round d t j next i b (Some Pat) e whole lt next_lt same ends begins later = rw e (omega (arith, later))
apart_in_round d t j next i b (Some (Pmt p)) e whole lt next_lt same ends begins later = rw e (omega (arith, later))
apart_in_round d t j next i b (Some Nit) e whole lt next_lt same ends begins later = rw e (omega (arith, later))
apart_in_round d t j next i b (Some Sdt) e whole lt next_lt same ends begins later = rw e (omega (arith, later))
apart_in_round d t j next i b (Some Tdt) e whole lt next_lt same ends begins later = rw e (omega (arith, later))
apart_in_round d t j next i b (Some (Private p)) e whole lt next_lt same ends begins later = rw e (omega (arith, later))
apart_in_round d t j next i b None e whole lt next_lt same ends begins later = rw e (omega (arith, later))

-- 2. Times

-- Own slots so many places apart are so many slots apart.
abbrev AreApart : (ℕ → Bool) → ℕ → ℕ → Type 0
AreApart own places slots = (s t : ℕ) → own s ≡ true → own t ≡ true → s < t → own_before own s + places ≤ own_before own t → s + slots ≤ t

sections_apart : (d : Described) (t : ℕ) (own : ℕ → Bool) (slots : ℕ) → is_spaced d t ≡ true → AreApart own (places_apart d t) slots →
    25 * d.rate + slot_ms_at_1bps ≤ slots * slot_ms_at_1bps → SectionsApart d t own
sections_apart d t own slots spaced apart long j next from to lt next_lt same ends begins later =
    let last = starts_at own (round_packets d t) (last_packet d t j) from ends in
    let first = starts_at own (round_packets d t) (first_packet d t next) to begins in
    let places : own_before own from + places_apart d t ≤ own_before own to =
    apart_in_round d t j next (own_before own from) (own_before own to) (table_kind d t) refl (and_parts _ _ spaced).0 lt next_lt same last.1 first.1
    (omega (arith, own_before_lt own from to last.0 later)) in
    omega (arith, apart from to last.0 first.0 later places, long)

-- 3. Plans

-- The condition on a table gives the least distance.
pub distance_holds : (part : ℕ) (d : Described) (t slots : ℕ) → is_spaced d t ≡ true → first_failing (distance_entries part d t slots) ≡ None →
    25 * d.rate + slot_ms_at_1bps ≤ slots * slot_ms_at_1bps
distance_holds part d t slots spaced none =
    at_most_holds SectionDistance part t (25 * d.rate + slot_ms_at_1bps) (slots * slot_ms_at_1bps) (rw spaced at none)

pub apart_in_plan : (d : Described) (t : ℕ) (marks : List Bool) → 0 < per_period marks → is_spaced d t ≡ true →
    25 * d.rate + slot_ms_at_1bps ≤ least_gap marks (places_apart d t) * slot_ms_at_1bps → SectionsApart d t (own marks)
apart_in_plan d t marks some spaced long =
    sections_apart d t (own marks) (least_gap marks (places_apart d t)) spaced (λ s u here there later le. near_law marks (places_apart d t) s u some here there le)
    long

pub apart_over_plans : (d : Described) (t : ℕ) (first second : List Bool) (periods : ℕ) → 0 < per_period first → 0 < per_period second → is_spaced d t ≡ true →
    25 * d.rate + slot_ms_at_1bps ≤ least_gap first (places_apart d t) * slot_ms_at_1bps →
    25 * d.rate + slot_ms_at_1bps ≤ least_gap second (places_apart d t) * slot_ms_at_1bps →
    25 * d.rate + slot_ms_at_1bps ≤ least_gap_across first second (places_apart d t) * slot_ms_at_1bps →
    SectionsApart d t (joined (own first) (own second) (periods * length first))
apart_over_plans d t first second periods some next_some spaced long next_long across_long =
    sections_apart d t (joined (own first) (own second) (periods * length first)) (least_of_both first second (places_apart d t)) spaced
    (λ s u here there later le. near_across_law first second periods (places_apart d t) s u some next_some later here there le)
    (both (least_gap first (places_apart d t)) (least_gap second (places_apart d t)) (least_gap_across first second (places_apart d t)) long next_long
    across_long)
  where
    both : (a b c : ℕ) → 25 * d.rate + slot_ms_at_1bps ≤ a * slot_ms_at_1bps → 25 * d.rate + slot_ms_at_1bps ≤ b * slot_ms_at_1bps →
        25 * d.rate + slot_ms_at_1bps ≤ c * slot_ms_at_1bps → 25 * d.rate + slot_ms_at_1bps ≤ min a (min b c) * slot_ms_at_1bps
    both a b c f g h = omega (arith, f, g, h)
