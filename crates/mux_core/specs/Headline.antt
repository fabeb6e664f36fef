-- The promises of the finished bytes of a run, at every moment and for runs of any length: every accepted unit is on its PID, in order and in time, and no
-- buffer of the decoder model (ISO/IEC 13818-1, 2.4.2) ever overflows.
use Rattle.std.specs.Prelude.{◌≡◌, ◌⊎◌, ℕ, ◌+◌, ◌*◌, ◌%◌, ◌<◌, ◌≤◌, true, false, List, length, map, take, slice_get, Some, None, All}
use Rattle.clock27.specs.Recurrence.{Recur}
use Rattle.clock27.specs.Reference.{Reference, pcr_at}
use Rattle.pes_packet.specs.AccessUnits.{AccessUnit}
use Rattle.ts_packet.specs.Views.{PacketView}
use Rattle.ts_packet.specs.Beginnings.{is_access, has_access, start_in}
use Rattle.ts_packet.specs.Syntax.{IsPacket}
use Rattle.ts_packet.specs.Packets.{payload_view, pcr_view, null_view}
use Rattle.ts_packet.specs.PidList.{Entry, cut_packets, entries_of, pid_list, payload_of}
use Rattle.slot_contents.specs.Contents.{run_bytes, payload_at}
use Rattle.description_parts.specs.Described.{Described, DescribedProgram, DescribedStream}
use Rattle.description_parts.specs.Tables.{table_count, table_limit, section_count}
use Rattle.slot_plan.specs.declared.slot.Slot.{Slot}
use Rattle.slot_plan.specs.declared.slot.Slot.TheVariants.{Pcr}
use Rattle.slot_plan.specs.SlotPids.{slot_pid}
use Rattle.slot_plan.specs.declared.slot.Item.TheVariants.{Table}
use Rattle.slot_plan.specs.Schedule.{owned}
use Rattle.slot_plan.specs.SectionDistances.{is_spaced}
use Rattle.slot_plan.specs.TableRounds.{section_starts, SectionsApart}
use Rattle.own_slots.specs.Slots.{own_slots}
use Rattle.unit_timing.specs.declared.framing.FrameDeclaration.{FrameDeclaration}
use Rattle.unit_timing.specs.declared.multiplexing_buffer.MultiplexingBuffer.{MultiplexingBuffer}
use Rattle.unit_timing.specs.Arrived.{AllLeft}
use Rattle.unit_timing.specs.EmptyBuffers.{IsEmptyEachSecond}
use Rattle.unit_timing.specs.LongestStay.{WaitsAtMost}
use Rattle.unit_timing.specs.MainBuffer.{mb_fullness}
use Rattle.unit_timing.specs.VideoBuffers.{multiplexing_left, multiplexing_fullness, elementary_fullness}
use Rattle.unit_timing.specs.SystemBuffer.{system_tb_fullness, bsys_fullness}
use Rattle.unit_timing.specs.Transport.{slots_of, tb_fullness, pes_left}
use Rattle.unit_queue.specs.Payloads.{piece_in, all_pieces, all_senders, IsReleased}
use Rattle.table_rounds.specs.Tables.{not_yet}
use Rattle.table_rounds.specs.Payloads.{TableCarried, Begins}
use Rattle.tstd.specs.Carried.{carries, timed_pes_packets, packets_on, table_packets}
use Rattle.tstd.specs.Measured.{late_of}
use Rattle.mux_core.specs.Scheduled.{Scheduled}
use Rattle.mux_core.specs.FramesKept.{FramesKept}
use Rattle.mux_core.specs.Histories.{TextsSoFar, History, unchanged, past_of, from_of, parameters_of, owned_stream, table_over, content_over}
use Rattle.mux_core.specs.MuxStates.{MuxState, Represents}
use Rattle.description_parts.specs.Ranges.{IsInRange}
use Rattle.slot_plan.specs.Promised.{Promised}
use Rattle.slot_plan.specs.Waits.{pes_entered, longest_wait}
use Rattle.unit_queue.specs.Queues.{ParametersInRange, Kept}

-- the promises for a stream with a multiplexing buffer (ISO/IEC 13818-1, 2.4.2.3, the leak method)
pub record VideoKept (d : Scheduled) (s : DescribedStream) (b : MultiplexingBuffer) (units : List AccessUnit) (slots : ℕ) (bytes : List ℕ) : Type 0 where
  -- the multiplexing buffer never holds more than its size
  pub multiplexing : (x : ℕ) → multiplexing_fullness d.description.rate s.rx b.rbx x (packets_on s.pid bytes) ≤ b.size
  -- the elementary stream buffer never holds more than its size
  pub elementary : (x : ℕ) →
      elementary_fullness d.description.rate s.rx b.rbx x (timed_pes_packets s.stream_id d.description.base0 units) (packets_on s.pid bytes) ≤ s.main
  -- each unit that is due is whole in the elementary stream buffer by its decoding time
  pub whole : AllLeft d.description.rate (s.rx * b.rbx) slots (timed_pes_packets s.stream_id d.description.base0 units)
      (multiplexing_left d.description.rate s.rx b.rbx (packets_on s.pid bytes))
  -- the transport buffer is empty at least once in each second (2.4.2.6)
  pub transport_empties : IsEmptyEachSecond d.description.rate s.rx (λ x. tb_fullness d.description.rate s.rx x (slots_of (packets_on s.pid bytes)))
  -- the multiplexing buffer is empty at least once in each second
  pub multiplexing_empties : IsEmptyEachSecond d.description.rate (s.rx * b.rbx)
      (λ x. multiplexing_fullness d.description.rate s.rx b.rbx x (packets_on s.pid bytes))

-- the promises for a stream with these accepted units
pub record StreamKept (d : Scheduled) (k : ℕ) (s : DescribedStream) (units : List AccessUnit) (slots : ℕ) (bytes : List ℕ) : Type 0 where
  -- the payloads on its PID, joined, are a beginning of its PES packets, joined
  pub carried : carries s.pid s.stream_id d.description.base0 units bytes ≡ true
  -- each payload belongs to a single unit. Its packet has the payload_unit_start_indicator exactly if it is the first of the unit, and the first packet has
  -- the random_access_indicator exactly if the unit has that mark
  pub pieces : map (λ e. piece_in (payload_at e)) (pid_list s.pid bytes) ≡ take (length (pid_list s.pid bytes)) (all_pieces (owned_stream d k s) units)
  -- packet number j has the continuity_counter j modulo 16
  pub counters : (j : ℕ) (e : Entry) → slice_get (pid_list s.pid bytes) j ≡ Some e → e.packet.header.continuity_counter ≡ j % 16
  -- no byte of a unit is in a slot that begins earlier than the lead before its decoding time
  pub not_early : (j : ℕ) (e : Entry) (u : AccessUnit) → slice_get (pid_list s.pid bytes) j ≡ Some e →
      slice_get (all_senders (owned_stream d k s) units) j ≡ Some u →
      IsReleased (owned_stream d k s) u e.index
  -- no byte of a unit enters the decoder more than a second before the decoding time of the unit (ISO/IEC 13818-1, 2.4.2.6)
  pub waits : WaitsAtMost longest_wait d.description.rate s.rx (timed_pes_packets s.stream_id d.description.base0 units)
      (pes_entered s.rx (packets_on s.pid bytes))
  -- the transport buffer never holds more than 512 bytes
  pub transport : (x : ℕ) → tb_fullness d.description.rate s.rx x (slots_of (packets_on s.pid bytes)) ≤ 512
  -- no unit that is due is late: each has left the transport buffer whole by its decoding time
  pub arrived : late_of d.description.rate d.description.base0 slots s units (packets_on s.pid bytes) ≡ None
  -- the main buffer never holds more than its size
  pub main_buffer : (x : ℕ) →
      mb_fullness d.description.rate s.rx x (timed_pes_packets s.stream_id d.description.base0 units)
      (pes_left d.description.rate s.rx 0 (packets_on s.pid bytes)) ≤ s.main
  -- if the main buffer consists of a multiplexing buffer and an elementary stream buffer, neither holds more than its size
  pub video : (b : MultiplexingBuffer) → s.multiplexing ≡ Some b → VideoKept d s b units slots bytes
  -- if its units are several access units each: with each access unit removed at its own decoding time, the main buffer never
  -- holds more than its size either
  pub frames : (f : FrameDeclaration) → s.framing ≡ Some f → FramesKept d s f units bytes

-- the promises for a program
pub record ProgramKept (d : Scheduled) (p : DescribedProgram) (slots : ℕ) (bytes : List ℕ) : Type 0 where
  -- each packet on its PCR PID has the clock at its byte 10, no payload, and the counter 15
  pub clocks : map (λ e. e.packet) (pid_list p.pcr_pid bytes)
      ≡ map (λ e. pcr_view p.pcr_pid (pcr_at d.description.rate d.description.base0 (188 * e.index + 10))) (pid_list p.pcr_pid bytes)
  -- clock references recur within the program's limit, from the begin to the end of the run
  pub pcrs_recur : Recur d.description.rate p.pcr_limit 0 (map (λ e. 188 * e.index + 10) (pid_list p.pcr_pid bytes)) (188 * slots)
  -- the transport buffer of its tables never holds more than 512 bytes, nor the system buffer more than 1,536
  pub system_transport : (x : ℕ) → system_tb_fullness d.description.rate x (table_packets p.pmt_pid bytes) ≤ 512
  pub system_buffer : (x : ℕ) → bsys_fullness d.description.rate x (table_packets p.pmt_pid bytes) ≤ 1536

-- the promises for table number t, over these changes of its texts
pub record TableKeptOver (d : Scheduled) (changes : TextsSoFar) (t slots : ℕ) (bytes : List ℕ) : Type 0 where
  -- its sections, each with the contents of the moment of its round by the texts in force where it begins, with consecutive counters
  pub sections : TableCarried (table_over d changes t) slots bytes
  -- in each slot that is the first place of a section, from the slot on in which the table came on air, a packet begins that section
  pub begins : (j s : ℕ) → j < section_count d.description t → not_yet (from_of (past_of changes) t) s ≡ false → s < slots →
      section_starts d.description d.schedule t j s ≡ true → Begins (table_over d changes t) j s bytes
  -- these slots recur within the table's limit, from the begin to the end of the run
  pub sections_recur : (j : ℕ) → j < section_count d.description t →
      Recur d.description.rate (table_limit d.description t) 0 (map (λ s. 188 * s) (own_slots (section_starts d.description d.schedule t j) 0 slots))
      (188 * slots)
  -- a transponder's sections of service information are 25 ms apart: from the slot in which one ends to the slot in which the next of its
  -- sub-table begins
  pub sections_apart : is_spaced d.description t ≡ true → SectionsApart d.description t (owned d.schedule (Table t))

-- the same without a change
abbrev pub TableKept : Scheduled → ℕ → ℕ → List ℕ → Type 0
TableKept d t slots bytes = TableKeptOver d unchanged t slots bytes

-- 188 bytes are a packet, by the standard's table of fields (ISO/IEC 13818-1, 2.4.3.2)
abbrev pub IsTransportPacket : List ℕ → Type 0
IsTransportPacket bytes = (packet : PacketView) × IsPacket bytes packet

-- a packet is on the PID of something that a slot may carry, and has no transport_error_indicator
abbrev pub IsNamed : Described → PacketView → Type 0
IsNamed d packet = ((slot : Slot) × (slot_pid d slot ≡ Some packet.header.pid)) × (packet.header.transport_error_indicator ≡ false)

-- a packet has the random_access_indicator only with the payload_unit_start_indicator (ISO/IEC 13818-1, 2.4.3.5)
abbrev pub IsAccessAtStart : PacketView → Type 0
IsAccessAtStart packet = has_access packet.adaptation ≡ is_access (start_in packet)

-- a packet has a payload and nothing else (2.4.3.2 to 2.4.3.5): it is in the clear, without priority; it has an adaptation field only if its payload has
-- less than 184 bytes or if a decoder may begin with it; the field has stuffing alone, and no flag except the random_access_indicator
abbrev pub IsPayloadAlone : PacketView → Type 0
IsPayloadAlone packet = packet ≡ payload_view packet.header.pid (start_in packet) packet.header.continuity_counter (payload_of packet)

-- a packet on the PCR PID of a program has a clock reference and nothing else, and is in the clear, without priority
pub record IsClockAlone (d : Described) (packet : PacketView) : Type 0 where
  pub program : ℕ
  pub named : slot_pid d (Pcr program) ≡ Some packet.header.pid
  pub reference : Reference
  pub alone : packet ≡ pcr_view packet.header.pid reference

-- the promises for the whole output, over these changes of its texts
pub record HeadlineOver (d : Scheduled) (changes : TextsSoFar) (units : ℕ → List AccessUnit) (slots : ℕ) (bytes : List ℕ) : Type 0 where
  -- 188 bytes a slot
  pub size : length bytes ≡ 188 * slots
  -- each 188 bytes are a packet
  pub packets : All IsTransportPacket (cut_packets bytes)
  -- each packet is the null packet, or is on a PID of the description and not marked as wrong
  pub pids : All (λ e. (e.packet ≡ null_view) ⊎ IsNamed d.description e.packet) (entries_of bytes)
  -- each packet is in the clear, and has a payload alone or a clock reference alone
  pub clear : All (λ e. IsPayloadAlone e.packet ⊎ IsClockAlone d.description e.packet) (entries_of bytes)
  -- the random_access_indicator is set only in packets where something begins
  pub access : All (λ e. IsAccessAtStart e.packet) (entries_of bytes)
  pub streams : (k : ℕ) (s : DescribedStream) → slice_get d.description.streams k ≡ Some s → StreamKept d k s (units k) slots bytes
  pub programs : (i : ℕ) (p : DescribedProgram) → slice_get d.description.programs i ≡ Some p → ProgramKept d p slots bytes
  pub tables : (t : ℕ) → t < table_count d.description → TableKeptOver d changes t slots bytes

-- the same without a change
abbrev pub Headline : Scheduled → (ℕ → List AccessUnit) → ℕ → List ℕ → Type 0
Headline d units slots bytes = HeadlineOver d unchanged units slots bytes

-- the numbers of each stream are in their ranges, and its units are within its declaration
pub record UnitsKept (d : Scheduled) (units : ℕ → List AccessUnit) : Type 0 where
  pub parameters : (k : ℕ) (s : DescribedStream) → slice_get d.description.streams k ≡ Some s → ParametersInRange (parameters_of d.description s)
  pub kept : (k : ℕ) (s : DescribedStream) → slice_get d.description.streams k ≡ Some s → Kept (owned_stream d k s) (units k)

-- the promises of a run: its schedule keeps the conditions, and its units were accepted
abbrev pub HeadlineLaw : Type 0
HeadlineLaw = (d : Scheduled) (changes : TextsSoFar) (units : ℕ → List AccessUnit) (slots : ℕ) → IsInRange d.description →
    Promised d.description d.schedule → UnitsKept d units → HeadlineOver d changes units slots (run_bytes (content_over d changes units) 0 slots)

-- the same promises for the history that a multiplexer represents, as far as its bytes go
abbrev pub AnyStateLaw : Type 0
AnyStateLaw = (h : History) (m : MuxState) (n : ℕ) → IsInRange m.schedule.description → Promised m.schedule.description m.schedule.schedule → Represents h m →
    HeadlineOver m.schedule h.changes h.units n (run_bytes (content_over m.schedule h.changes h.units) 0 n)
