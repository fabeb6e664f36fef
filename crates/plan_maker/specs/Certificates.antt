-- The least claims that the slots of a period can make: the least numbers that the conditions on spread and buffers let a
-- certificate have, each buffer begun with what a period leaves that began with an empty one.
use Rattle.std.specs.Prelude.{ℕ, List, [], ◌∷◌, Option, Some, None}
use Rattle.own_slots.specs.Spread.{spread}
use Rattle.own_slots.specs.Work.{most_after, work_left}
use Rattle.unit_timing.specs.declared.multiplexing_buffer.MultiplexingBuffer.{MultiplexingBuffer}
use Rattle.description_parts.specs.Described.{Described, DescribedStream}
use Rattle.slot_plan.specs.declared.slot.Slot.{Slot}
use Rattle.slot_plan.specs.declared.slot.Item.{Item}
use Rattle.slot_plan.specs.declared.slot.Item.TheVariants.{Stream, System}
use Rattle.slot_plan.specs.declared.certificate.StreamEntry.{StreamEntry}
use Rattle.slot_plan.specs.declared.certificate.MultiplexingEntry.{MultiplexingEntry}
use Rattle.slot_plan.specs.declared.certificate.ProgramEntry.{ProgramEntry}
use Rattle.slot_plan.specs.Planned.{Certified}
use Rattle.slot_plan.specs.Items.{marks}
use Rattle.slot_plan.specs.Numbered.{numbered}

-- the work after one period that begins with none
abbrev pub start_of : ℕ → ℕ → Item → List Slot → ℕ
start_of rate drain item slots = work_left rate drain 0 (marks item slots)

-- the greatest work after an own slot, in one period from that start
abbrev pub peak_of : ℕ → ℕ → Item → List Slot → ℕ
peak_of rate drain item slots = most_after rate drain (start_of rate drain item slots) (marks item slots)

-- the claim on the multiplexing buffer of stream number i, if it has one
abbrev pub multiplexing_entry_of : Described → List Slot → ℕ → Option MultiplexingBuffer → Option MultiplexingEntry
multiplexing_entry_of d slots i None = None
multiplexing_entry_of d slots i (Some b) =
    Some (record { start = start_of d.rate b.rbx (Stream i) slots; peak = peak_of d.rate b.rbx (Stream i) slots })

-- the claim of stream number i (its transport buffer: ISO/IEC 13818-1, 2.4.2.3)
abbrev pub stream_entry_of : Described → List Slot → ℕ → DescribedStream → StreamEntry
stream_entry_of d slots i s = record {
  spread = spread (marks (Stream i) slots);
  start = start_of d.rate s.rx (Stream i) slots;
  peak = peak_of d.rate s.rx (Stream i) slots;
  multiplexing = multiplexing_entry_of d slots i s.multiplexing;
}

-- the claim of program number i: its transport buffer drained at 1,000,000 bits a second, its system buffer at 80,000
abbrev pub program_entry_of : Described → List Slot → ℕ → ProgramEntry
program_entry_of d slots i = record {
  transport_start = start_of d.rate 1000000 (System i) slots;
  transport_peak = peak_of d.rate 1000000 (System i) slots;
  system_start = start_of d.rate 80000 (System i) slots;
  system_peak = peak_of d.rate 80000 (System i) slots;
}

abbrev pub stream_entries_of : Described → List Slot → List StreamEntry
stream_entries_of d slots = numbered (λ i s. stream_entry_of d slots i s ∷ []) 0 d.streams

abbrev pub program_entries_of : Described → List Slot → List ProgramEntry
program_entries_of d slots = numbered (λ i _. program_entry_of d slots i ∷ []) 0 d.programs

-- the certificate of these slots
abbrev pub certificate_of : Described → List Slot → Certified
certificate_of d slots = record { streams = stream_entries_of d slots; programs = program_entries_of d slots }
