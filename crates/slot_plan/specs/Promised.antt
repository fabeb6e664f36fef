-- What a description asks of the schedule that serves it, over runs of any length.
use Rattle.std.specs.Prelude.{◌≡◌, ℕ, ◌+◌, ◌*◌, ◌<◌, true, List, Some, length, map, slice_get, All}
use Rattle.clock27.specs.Recurrence.{Recur}
use Rattle.own_slots.specs.Slots.{own_slots}
use Rattle.unit_timing.specs.PesPacket.{PesPacket}
use Rattle.unit_timing.specs.declared.framing.FrameDeclaration.{FrameDeclaration}
use Rattle.unit_timing.specs.declared.multiplexing_buffer.MultiplexingBuffer.{MultiplexingBuffer}
use Rattle.unit_timing.specs.Plans.{KeepsDeclaration, StreamServed, ProgramServed, run_packets}
use Rattle.unit_timing.specs.EmptyBuffers.{StreamEmptied, VideoEmptied}
use Rattle.unit_timing.specs.LongestStay.{WaitsAtMost}
use Rattle.unit_timing.specs.VideoPlans.{Leak, VideoServed}
use Rattle.unit_timing.specs.AccessUnits.{FramedPacket, KeepsFraming, Followed, packets_of}
use Rattle.description_parts.specs.Described.{Described, DescribedProgram, DescribedStream}
use Rattle.description_parts.specs.Ranges.{IsInRange}
use Rattle.description_parts.specs.Tables.{table_count, table_limit, section_count, clock_of}
use Rattle.slot_plan.specs.declared.slot.Item.TheVariants.{Stream, Pcr, Table, System}
use Rattle.slot_plan.specs.Planned.{Planned}
use Rattle.slot_plan.specs.Conditions.{IsServing}
use Rattle.slot_plan.specs.SwitchConditions.{IsSwitchable}
pub use Rattle.slot_plan.specs.Claims.{declaration}
use Rattle.slot_plan.specs.Schedule.{Schedule, single, switched, owned}
use Rattle.slot_plan.specs.SectionDistances.{is_spaced}
use Rattle.slot_plan.specs.TableRounds.{section_starts, SectionsApart}
use Rattle.slot_plan.specs.FramesServed.{FramesServed}
use Rattle.slot_plan.specs.Waits.{pes_entered, longest_wait}

-- the multiplexing buffer of a stream, in the terms of the timing
abbrev pub leak_of : MultiplexingBuffer → Leak
leak_of b = record { rbx = b.rbx; mb = b.size }

-- the promises of a schedule: units that keep a stream's declaration have left its transport buffer by their decoding
-- times, that buffer never holds more than 512 bytes, nor the stream's main buffer more than its size; no byte of a unit comes
-- into the decoder earlier than a second before the unit's decoding time (ISO/IEC 13818-1, 2.4.2.6); of a stream with a multiplexing
-- buffer that this one, and the elementary stream buffer after it, never hold more than their sizes, and that units are whole in
-- the latter by their decoding times (2.4.2.3), and that its transport buffer and its multiplexing buffer are empty at least once
-- in each second (2.4.2.6); of a stream with a framing that its main buffer has room for access units that are
-- removed one by one; the buffers of a program's tables never overflow; the PCRs of a program's clock recur within the program's
-- limit; each section of a table recurs within the table's limit, from the run's begin to its end; the sections of each sub-table of a
-- transponder's service information are 25 ms apart
pub record Promised (d : Described) (schedule : Schedule) : Type 0 where
  pub streams : (i : ℕ) (s : DescribedStream) (units : List PesPacket) → slice_get d.streams i ≡ Some s → KeepsDeclaration (declaration s) units →
      StreamServed (owned schedule (Stream i)) d.rate (declaration s) units
  pub videos : (i : ℕ) (s : DescribedStream) (b : MultiplexingBuffer) (units : List PesPacket) → slice_get d.streams i ≡ Some s → s.multiplexing ≡ Some b →
      KeepsDeclaration (declaration s) units → VideoServed (owned schedule (Stream i)) d.rate (declaration s) (leak_of b) units
  pub emptied : (i : ℕ) (s : DescribedStream) (b : MultiplexingBuffer) (units : List PesPacket) → slice_get d.streams i ≡ Some s → s.multiplexing ≡ Some b →
      StreamEmptied (owned schedule (Stream i)) d.rate (declaration s) units × VideoEmptied (owned schedule (Stream i)) d.rate (declaration s) (leak_of b) units
  pub waits : (i : ℕ) (s : DescribedStream) (units : List PesPacket) (n : ℕ) → slice_get d.streams i ≡ Some s →
      WaitsAtMost longest_wait d.rate s.rx units (pes_entered s.rx (run_packets (owned schedule (Stream i)) d.rate (declaration s) units n))
  pub frames : (i : ℕ) (s : DescribedStream) (f : FrameDeclaration) (packets : List FramedPacket) → slice_get d.streams i ≡ Some s → s.framing ≡ Some f →
      All (KeepsFraming f) packets → Followed f 0 packets → KeepsDeclaration (declaration s) (packets_of packets) →
      FramesServed (owned schedule (Stream i)) d.rate (declaration s) f packets
  pub programs : (i : ℕ) → i < length d.programs → ProgramServed (owned schedule (System i)) d.rate
  pub pcrs : (i : ℕ) (p : DescribedProgram) (slots : ℕ) → slice_get d.programs i ≡ Some p →
      Recur d.rate p.pcr_limit 0 (map (λ s. 188 * s + 10) (own_slots (owned schedule (Pcr (clock_of d i))) 0 slots)) (188 * slots)
  pub sections : (t j : ℕ) (slots : ℕ) → t < table_count d → j < section_count d t →
      Recur d.rate (table_limit d t) 0 (map (λ s. 188 * s) (own_slots (section_starts d schedule t j) 0 slots)) (188 * slots)
  pub sections_apart : (t : ℕ) → t < table_count d → is_spaced d t ≡ true → SectionsApart d t (owned schedule (Table t))

-- one plan
abbrev pub PlanLaw : Type 0
PlanLaw = (d : Described) (p : Planned) → IsInRange d → IsServing d p → Promised d (single p.slots)

-- two plans, the first for a number of its periods
abbrev pub SwitchLaw : Type 0
SwitchLaw = (d : Described) (first second : Planned) (periods : ℕ) → IsInRange d → IsServing d first → IsSwitchable d first second →
    Promised d (switched first.slots periods second.slots)
