-- A description's declaration of a stream, and a plan's claims for its items, in the terms of the timing.
use Rattle.std.specs.Prelude.{ℕ, ◌+◌, Option, Some, None, length, slice_index_or}
use Rattle.own_slots.specs.Period.{per_period}
use Rattle.unit_timing.specs.Plans.{Declaration}
use Rattle.unit_timing.specs.Conditions.{Share}
use Rattle.unit_timing.specs.declared.multiplexing_buffer.MultiplexingBuffer.{MultiplexingBuffer}
use Rattle.description_parts.specs.Described.{DescribedStream}
use Rattle.description_parts.specs.Tables.{greatest_unit_packets}
use Rattle.slot_plan.specs.declared.slot.Item.TheVariants.{Stream}
use Rattle.slot_plan.specs.declared.certificate.StreamEntry.{StreamEntry}
use Rattle.slot_plan.specs.declared.certificate.MultiplexingEntry.{MultiplexingEntry}
use Rattle.slot_plan.specs.declared.certificate.ProgramEntry.{ProgramEntry}
use Rattle.slot_plan.specs.Planned.{Planned}
use Rattle.slot_plan.specs.Items.{marks}

-- what a stream declares of its units, each with a PES header of at most 19 bytes (ISO/IEC 13818-1, 2.4.3.7), where they leave
-- a buffer at that rate
abbrev pub drained_declaration : DescribedStream → ℕ → Declaration
drained_declaration s drain = record {
  interval = s.interval;
  lead = s.lead;
  drain = drain;
  main = s.main;
  largest = 19 + s.size;
  unit_packets = greatest_unit_packets s;
  allowance = s.allowance;
}

-- the same for its transport buffer
abbrev pub declaration : DescribedStream → Declaration
declaration s = drained_declaration s s.rx

-- the same if a unit may be sent `lead` before its decoding time
abbrev pub with_lead : Declaration → ℕ → Declaration
with_lead s lead = record s { lead = lead }

abbrev pub led_declaration : DescribedStream → ℕ → Declaration
led_declaration s lead = with_lead (declaration s) lead

-- a plan's claims for stream number i, for program number i
abbrev pub stream_claim : Planned → ℕ → StreamEntry
stream_claim p i = slice_index_or p.certificate.streams i (record { spread = 0; start = 0; peak = 0; multiplexing = None })

abbrev pub program_claim : Planned → ℕ → ProgramEntry
program_claim p i =
    slice_index_or p.certificate.programs i (record { transport_start = 0; transport_peak = 0; system_start = 0; system_peak = 0 })

-- the own slots of stream number i, in numbers, if `peak` is the most work after one of them
abbrev pub peaked_share : Planned → ℕ → ℕ → Share
peaked_share p i peak = record {
  count = per_period (marks (Stream i) p.slots);
  period = length p.slots;
  spread = (stream_claim p i).spread;
  peak = peak;
}

-- the same with the work of its transport buffer
abbrev pub stream_share : Planned → ℕ → Share
stream_share p i = peaked_share p i (stream_claim p i).peak

-- ---- a stream with a multiplexing buffer (ISO/IEC 13818-1, 2.4.2.3)

-- the claim for its multiplexing buffer: no claim means no work
abbrev pub claimed_multiplexing : Option MultiplexingEntry → MultiplexingEntry
claimed_multiplexing None = record { start = 0; peak = 0 }
claimed_multiplexing (Some claim) = claim

-- a plan's claim for the multiplexing buffer of stream number i
abbrev pub multiplexing_claim : Planned → ℕ → MultiplexingEntry
multiplexing_claim p i = claimed_multiplexing (stream_claim p i).multiplexing

-- what a stream declares of its units, on their way into the elementary stream buffer: they come at the rate of the leak
abbrev pub elementary_declaration : DescribedStream → MultiplexingBuffer → Declaration
elementary_declaration s b = drained_declaration s b.rbx

-- the most work that is still before the elementary stream buffer after an own slot: the work of the multiplexing buffer, and one
-- byte that is still on its way through the transport buffer
abbrev pub elementary_peak : ℕ → Planned → ℕ → ℕ
elementary_peak rate p i = (multiplexing_claim p i).peak + rate

-- the own slots of stream number i with that work
abbrev pub elementary_share : ℕ → Planned → ℕ → Share
elementary_share rate p i = peaked_share p i (elementary_peak rate p i)
