-- What a line-up without a fault has in common with the one before it.
use Rattle.std.specs.Prelude.{◌≡◌, ℕ, ◌+◌, ◌≤◌, ◌<◌, true, false, Some, None, map, slice_get}
use Rattle.description_parts.specs.Described.{DescribedStream}
use Rattle.description_parts.specs.Ranges.{IsInRange}
use Rattle.description_parts.specs.Tables.{table_count, table_pid, section_lengths, packets_of_section}
use Rattle.slot_plan.specs.Conditions.{IsServing}
use Rattle.slot_plan.specs.Schedule.{single, owned}
use Rattle.slot_plan.specs.declared.slot.Slot.{Slot}
use Rattle.slot_plan.specs.declared.slot.Item.TheVariants.{Stream as StreamItem, Pcr as PcrItem, Table as TableItem, System}
use Rattle.changed_texts.specs.Fixed.{fixed_stream}
use Rattle.plan_checker.specs.Served.{Served}
use Rattle.line_ups.specs.Kept.{slot_with, slot_in, is_null, is_pid, carried, is_same_slot, stream_before, table_before, clock_before, program_before}
use Rattle.line_ups.specs.Faults.{line_up_fault}

-- a stream that stays has its declaration, and its own slots over all time
pub record StreamStays (old new : Served) (k i : ℕ) : Type 0 where
  pub stream : DescribedStream
  pub before : DescribedStream
  pub has : slice_get new.description.streams k ≡ Some stream
  pub had : slice_get old.description.streams i ≡ Some before
  pub declares : fixed_stream before ≡ fixed_stream stream
  pub own : (s : ℕ) → owned (single old.plan.slots) (StreamItem i) s ≡ owned (single new.plan.slots) (StreamItem k) s

-- a table that stays has its PID, the packets of its sections, and its own slots
pub record TableStays (old new : Served) (t i : ℕ) : Type 0 where
  pub within : i < table_count old.description
  pub pid : table_pid old.description i ≡ table_pid new.description t
  pub places : map packets_of_section (section_lengths old.description i) ≡ map packets_of_section (section_lengths new.description t)
  pub own : (s : ℕ) → owned (single old.plan.slots) (TableItem i) s ≡ owned (single new.plan.slots) (TableItem t) s

-- clock references that stay have their own slots
abbrev pub ClockStays : Served → Served → ℕ → ℕ → Type 0
ClockStays old new j i = (s : ℕ) → owned (single old.plan.slots) (PcrItem i) s ≡ owned (single new.plan.slots) (PcrItem j) s

-- a program whose PMT stays has its slots of system packets: those of the PAT, which every line-up has, and of the PMT
abbrev pub SystemStays : Served → Served → ℕ → ℕ → Type 0
SystemStays old new j i = table_before old.description new.description (1 + j) ≡ Some (1 + i) →
    (s : ℕ) → owned (single old.plan.slots) (System i) s ≡ owned (single new.plan.slots) (System j) s

-- a PID that both have is carried in the same slots
abbrev pub PidStays : Served → Served → ℕ → Type 0
PidStays old new pid = is_null (slot_with old.description pid) ≡ false → is_null (slot_with new.description pid) ≡ false →
    (s : ℕ) → is_pid pid (carried old s) ≡ is_pid pid (carried new s)

-- and is of one thing
abbrev pub ThingStays : Served → Served → Slot → Slot → Type 0
ThingStays old new slot before = slot_in old.description new.description slot ≡ before → is_null before ≡ false →
    is_same_slot old.description new.description before slot ≡ true

pub record IsKept (old new : Served) : Type 0 where
  pub rate : new.description.rate ≡ old.description.rate
  pub base0 : new.description.base0 ≡ old.description.base0
  pub transport_stream_id : new.description.transport_stream_id ≡ old.description.transport_stream_id
  pub original_network_id : new.description.original_network_id ≡ old.description.original_network_id
  pub is_transponder : new.description.is_transponder ≡ old.description.is_transponder
  pub pids : (pid : ℕ) → PidStays old new pid
  pub things : (slot before : Slot) → ThingStays old new slot before
  pub streams : (k i : ℕ) → stream_before old.description new.description k ≡ Some i → StreamStays old new k i
  pub tables : (t i : ℕ) → table_before old.description new.description t ≡ Some i → TableStays old new t i
  pub clocks : (j i : ℕ) → clock_before old.description new.description j ≡ Some i → ClockStays old new j i
  pub systems : (j i : ℕ) → SystemStays old new j i
  pub order : (j i : ℕ) → program_before old.description new.description j ≡ Some i → j ≤ i

abbrev pub KeptLaw : Type 0
KeptLaw = (old new : Served) → IsInRange old.description → IsInRange new.description → IsServing old.description old.plan →
    IsServing new.description new.plan → line_up_fault old new ≡ None → IsKept old new

-- no two things of the new line-up were one thing before, so a queue or a carousel is moved once
pub record MovesOnceLaw : Type 0 where
  pub streams : (old new : Served) (j k i : ℕ) → IsInRange new.description → stream_before old.description new.description j ≡ Some i →
      stream_before old.description new.description k ≡ Some i → j ≡ k
  pub tables : (old new : Served) (t u i : ℕ) → IsInRange new.description → table_before old.description new.description t ≡ Some i →
      table_before old.description new.description u ≡ Some i → t ≡ u
