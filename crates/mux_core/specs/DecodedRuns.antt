-- What a decoder by ISO/IEC 13818-1 gets from finished bytes that keep their promises, whoever wrote them: packets in the clear, the clock of each program,
-- each unit whole and in time with its stamps, each section within its limit, no counter that breaks, and nothing that the description does not declare.
use Rattle.std.specs.Prelude.{◌≡◌, ℕ, ◌+◌, ◌*◌, ◌<◌, ◌≤◌, ◌==◌, Bool, true, false, IsTrue, List, [], length, map, take, drop, slice_get, All}
use Rattle.std.specs.Prelude.{Option, Some, None, option_map, Ok}
use Rattle.std.specs.List.{concat}
use Rattle.clock27.specs.Recurrence.{Recur}
use Rattle.clock27.specs.Reference.{Reference, ticks_of, pcr_ticks}
use Rattle.clock27.specs.Units.{slot_units_at_1bps, byte_units_at_1bps}
use Rattle.pes_packet.specs.AccessUnits.{AccessUnit}
use Rattle.pes_packet.specs.Encoding.{on_wire}
use Rattle.pes_packet.specs.Reading.{header_at}
use Rattle.pes_packet.specs.StreamIds.{fits_packet}
use Rattle.pes_packet.specs.Units.{pes_packets_of}
use Rattle.pes_packet.specs.declared.reading.PesHeader.{PesHeader}
use Rattle.pes_packet.specs.declared.time_stamps.Stamps.{Stamps}
use Rattle.pes_packet.specs.declared.time_stamps.Stamps.TheVariants.{Absent, Pts, PtsDts}
use Rattle.ts_packet.specs.Views.{AdaptationView, WithFlags, PacketView}
use Rattle.ts_packet.specs.PcrBytes.{has_pcr}
use Rattle.ts_packet.specs.Packets.{null_view}
use Rattle.ts_packet.specs.Beginnings.{is_access, has_access}
use Rattle.ts_packet.specs.PidList.{Entry, entries_of, pid_list, payloads_on}
use Rattle.description_parts.specs.Described.{Described, DescribedProgram, DescribedStream}
use Rattle.description_parts.specs.Ranges.{IsInRange}
use Rattle.description_parts.specs.Tables.{table_count, table_limit, table_pid, section_count}
use Rattle.slot_plan.specs.declared.slot.Slot.{Slot}
use Rattle.slot_plan.specs.declared.slot.Slot.TheVariants.{Pcr}
use Rattle.slot_plan.specs.SlotPids.{slot_pid}
use Rattle.table_rounds.specs.Payloads.{Begins}
use Rattle.unit_timing.specs.declared.multiplexing_buffer.MultiplexingBuffer.{MultiplexingBuffer}
use Rattle.unit_timing.specs.Transport.{pes_left}
use Rattle.unit_timing.specs.VideoBuffers.{multiplexing_left}
use Rattle.slot_plan.specs.Waits.{pes_entered, longest_wait}
use Rattle.unit_queue.specs.OwnedStreams.{pes_bytes}
use Rattle.unit_queue.specs.Payloads.{all_pieces, all_senders}
use Rattle.tstd.specs.Carried.{packets_on}
use Rattle.mux_core.specs.Scheduled.{Scheduled}
use Rattle.mux_core.specs.Histories.{TextsSoFar, past_of, from_of, owned_stream, table_over}
use Rattle.mux_core.specs.Headline.{HeadlineOver}
use Rattle.mux_core.specs.Decoder.{Follow, pieces_on, put_together}

-- a unit is due in a run of `slots` slots
abbrev pub IsDue : Described → ℕ → AccessUnit → Type 0
IsDue d slots u = u.dts * d.rate ≤ slots * slot_units_at_1bps

-- a unit whose PES packet follows the first `before` bytes of the payloads on the PID of its stream
pub record Arrives (d : Described) (s : DescribedStream) (dts before : ℕ) (pes bytes : List ℕ) : Type 0 where
  -- the payloads have the PES packet there
  pub there : take (length pes) (drop before (payloads_on s.pid bytes)) ≡ pes
  -- each byte of it leaves the transport buffer by its DTS (2.4.2.3)
  pub left : before + length pes ≤ length (pes_left d.rate s.rx 0 (packets_on s.pid bytes))
  pub in_time : All (λ t. t * byte_units_at_1bps ≤ dts * d.rate * s.rx) (take (length pes) (drop before (pes_left d.rate s.rx 0 (packets_on s.pid bytes))))

-- if the main buffer consists of a multiplexing buffer and an elementary stream buffer: such a unit is whole in the latter by its DTS, by the leak method
pub record ArrivesInEb (d : Described) (s : DescribedStream) (b : MultiplexingBuffer) (dts before size : ℕ) (bytes : List ℕ) : Type 0 where
  pub left : before + size ≤ length (multiplexing_left d.rate s.rx b.rbx (packets_on s.pid bytes))
  pub in_time : All (λ t. t * byte_units_at_1bps ≤ dts * d.rate * (s.rx * b.rbx))
      (take size (drop before (multiplexing_left d.rate s.rx b.rbx (packets_on s.pid bytes))))

-- the PTS of a PES packet, and its DTS: its PTS, if it has no DTS (2.4.3.7)
abbrev pub presentation_stamp : Stamps → Option ℕ
presentation_stamp Absent = None
presentation_stamp (Pts pts) = Some pts
presentation_stamp (PtsDts pts dts) = Some pts

abbrev pub decoding_stamp : Stamps → Option ℕ
decoding_stamp Absent = None
decoding_stamp (Pts pts) = Some pts
decoding_stamp (PtsDts pts dts) = Some dts

-- a PES packet has this PTS and this DTS
pub record HasStamps (pes : List ℕ) (pts dts : ℕ) : Type 0 where
  pub header : PesHeader
  pub size : ℕ
  pub read : header_at pes ≡ Ok (header, size)
  pub presentation : presentation_stamp header.stamps ≡ Some pts
  pub decoding : decoding_stamp header.stamps ≡ Some dts

-- the promises for a stream
pub record StreamDecoded (d : Scheduled) (k : ℕ) (s : DescribedStream) (units : List AccessUnit) (slots : ℕ) (bytes : List ℕ) : Type 0 where
  -- no counter breaks
  pub follow : Follow (pid_list s.pid bytes)
  -- its packets have the random_access_indicator exactly if a unit with this mark begins there
  pub access : map (λ e. has_access e.packet.adaptation) (pid_list s.pid bytes)
      ≡ take (length (pid_list s.pid bytes)) (map (λ p. is_access p.start) (all_pieces (owned_stream d k s) units))
  -- each unit that is due in the run is reassembled whole, at its place among the units of the stream
  pub whole : (i : ℕ) (u : AccessUnit) → slice_get units i ≡ Some u → IsDue d.description slots u →
      slice_get (put_together (pieces_on s.pid bytes)) i ≡ Some (pes_bytes (owned_stream d k s) u)
  -- each such unit arrives by its DTS
  pub arrive : (i : ℕ) (u : AccessUnit) → slice_get units i ≡ Some u → IsDue d.description slots u →
      Arrives d.description s u.dts (length (concat (take i (pes_packets_of s.stream_id d.description.base0 units)))) (pes_bytes (owned_stream d k s) u) bytes
  pub video : (b : MultiplexingBuffer) → s.multiplexing ≡ Some b → (i : ℕ) (u : AccessUnit) → slice_get units i ≡ Some u → IsDue d.description slots u →
      ArrivesInEb d.description s b u.dts (length (concat (take i (pes_packets_of s.stream_id d.description.base0 units))))
      (length (pes_bytes (owned_stream d k s) u)) bytes
  -- the stamps in the PES packet of a unit, if it has a size that PES packets may have: by the clock of the program, which is base0 at byte 0
  pub stamps : (i : ℕ) (u : AccessUnit) → slice_get units i ≡ Some u → IsTrue (fits_packet s.stream_id (length u.bytes)) →
      HasStamps (pes_bytes (owned_stream d k s) u) (on_wire (u.pts + d.description.base0)) (on_wire (u.dts + d.description.base0))
  -- no byte of a unit enters the decoder more than a second before the DTS of the unit (2.4.2.6)
  pub stay : (i : ℕ) (u : AccessUnit) → slice_get units i ≡ Some u →
      All (λ t. u.dts * d.description.rate * s.rx ≤ t * byte_units_at_1bps + longest_wait * d.description.rate * s.rx)
      (take (length (pes_bytes (owned_stream d k s) u)) (drop (length (concat (take i (pes_packets_of s.stream_id d.description.base0 units))))
      (pes_entered s.rx (packets_on s.pid bytes))))
  -- no packet of a unit begins more than a second before its DTS: the delay through the buffers is at most one second (2.4.2.6)
  pub soon : (j : ℕ) (e : Entry) (u : AccessUnit) → slice_get (pid_list s.pid bytes) j ≡ Some e →
      slice_get (all_senders (owned_stream d k s) units) j ≡ Some u →
      u.dts * d.description.rate ≤ e.index * slot_units_at_1bps + 90000 * d.description.rate

-- the program_clock_reference of an adaptation field
abbrev pub pcr_of : Option AdaptationView → Option Reference
pcr_of (Some (WithFlags parts)) = parts.pcr
pcr_of _ = None

-- a packet has the clock at the arrival of its byte 10: base0 at byte 0, in ticks of 27 MHz modulo 300 * 2^33 (2.4.2.2)
abbrev pub HasClock : ℕ → ℕ → Entry → Type 0
HasClock rate base0 e = option_map ticks_of (pcr_of e.packet.adaptation) ≡ Some (pcr_ticks rate base0 (188 * e.index + 10))

-- the promises for a program
pub record ProgramDecoded (d : Scheduled) (p : DescribedProgram) (slots : ℕ) (bytes : List ℕ) : Type 0 where
  -- each packet on its PCR PID has the clock, and they recur within the limit of the program
  pub clocks : All (HasClock d.description.rate d.description.base0) (pid_list p.pcr_pid bytes)
  pub recur : Recur d.description.rate p.pcr_limit 0 (map (λ e. 188 * e.index + 10) (pid_list p.pcr_pid bytes)) (188 * slots)

-- a section begins in these slots, by the texts in force there, and they recur within the limit of its table
pub record SectionComes (d : Scheduled) (changes : TextsSoFar) (t j slots : ℕ) (bytes : List ℕ) : Type 0 where
  pub starts : List ℕ
  pub begins : All (λ s. Begins (table_over d changes t) j s bytes) starts
  pub recur : Recur d.description.rate (table_limit d.description t) 0 (map (λ s. 188 * s) starts) (188 * slots)

-- the promises for table number t
pub record TableDecoded (d : Scheduled) (changes : TextsSoFar) (t slots : ℕ) (bytes : List ℕ) : Type 0 where
  -- no counter breaks on its PID
  pub follow : Follow (pid_list (table_pid d.description t) bytes)
  pub sections : (j : ℕ) → j < section_count d.description t → SectionComes d changes t j slots bytes

-- the discontinuity_indicator of an adaptation field
abbrev pub has_discontinuity : Option AdaptationView → Bool
has_discontinuity (Some (WithFlags parts)) = parts.discontinuity_indicator
has_discontinuity _ = false

-- a packet is in the clear (2.4.3.3), announces no leap of a counter or of a clock (2.4.3.5), and has a clock reference only on the PCR PID of a program
pub record IsClear (d : Described) (packet : PacketView) : Type 0 where
  pub scrambling : packet.header.transport_scrambling_control ≡ 0
  pub steady : has_discontinuity packet.adaptation ≡ false
  pub clock : has_pcr packet.adaptation ≡ true → (i : ℕ) × (slot_pid d (Pcr i) ≡ Some packet.header.pid)

-- the promises for the whole run, over these changes of its texts
pub record IsDecoded (d : Scheduled) (changes : TextsSoFar) (units : ℕ → List AccessUnit) (slots : ℕ) (bytes : List ℕ) : Type 0 where
  -- each slot is a readable packet, and no packet has the transport_error_indicator
  pub read : length (entries_of bytes) ≡ slots
  pub unmarked : All (λ e. e.packet.header.transport_error_indicator ≡ false) (entries_of bytes)
  pub clear : All (λ e. IsClear d.description e.packet) (entries_of bytes)
  -- there is no packet on a PID outside the description, and the PID of null packets has only the null packet
  pub silent : (pid : ℕ) → (pid == 8191) ≡ false → ((slot : Slot) → slot_pid d.description slot ≡ Some pid → ⊥) → pid_list pid bytes ≡ []
  pub nulls : All (λ e. e.packet ≡ null_view) (pid_list 8191 bytes)
  pub streams : (k : ℕ) (s : DescribedStream) → slice_get d.description.streams k ≡ Some s → StreamDecoded d k s (units k) slots bytes
  pub programs : (i : ℕ) (p : DescribedProgram) → slice_get d.description.programs i ≡ Some p → ProgramDecoded d p slots bytes
  pub tables : (t : ℕ) → t < table_count d.description → TableDecoded d changes t slots bytes

abbrev pub DecodedLaw : Type 0
DecodedLaw = (d : Scheduled) (changes : TextsSoFar) (units : ℕ → List AccessUnit) (slots : ℕ) (bytes : List ℕ) → ((t : ℕ) → from_of (past_of changes) t ≡ None) →
    IsInRange d.description →
    HeadlineOver d changes units slots bytes → IsDecoded d changes units slots bytes
