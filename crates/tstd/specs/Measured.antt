-- The fullness of the buffers of the decoder model (ISO/IEC 13818-1, 2.4.2.3), and the late units, of finished bytes.
--
-- At a stream's transport and main buffer times are in units of 8 / (rate * rx) seconds, at its multiplexing buffer MB and
-- elementary stream buffer EB in units of 8 / (rate * rx * rbx) seconds, at the buffers of a program's tables in units of
-- 8 / (rate * 2,000,000) seconds.
use Rattle.std.specs.Prelude.{◌≡◌, ℕ, ◌+◌, ◌*◌, ◌/◌, List, [], ◌∷◌, length, slice_get, Option, Some, None}
use Rattle.clock27.specs.Peak.{IsPeak}
use Rattle.description_parts.specs.Described.{Described, DescribedProgram, DescribedStream}
use Rattle.pes_packet.specs.AccessUnits.{AccessUnit}
use Rattle.unit_timing.specs.declared.multiplexing_buffer.MultiplexingBuffer.{MultiplexingBuffer}
use Rattle.unit_timing.specs.Arrived.{first_late}
use Rattle.unit_timing.specs.MainBuffer.{mb_fullness}
use Rattle.unit_timing.specs.Schedule.{Packet}
use Rattle.unit_timing.specs.SystemBuffer.{system_tb_fullness, bsys_fullness}
use Rattle.unit_timing.specs.Transport.{slots_of, tb_fullness, pes_left}
use Rattle.unit_timing.specs.VideoBuffers.{multiplexing_left, multiplexing_fullness, elementary_fullness}
use Rattle.pes_packet.specs.Units.{units_of}
use Rattle.tstd.specs.Carried.{timed_pes_packets, packets_on, table_packets}
use Rattle.tstd.specs.declared.fullness.StreamFullness.{StreamFullness}
use Rattle.tstd.specs.declared.fullness.SystemFullness.{SystemFullness}
use Rattle.tstd.specs.declared.fullness.VideoFullness.{VideoFullness}
use Rattle.tstd.specs.declared.fullness.LateUnit.{LateUnit}

-- the result of a measurement: the greatest numbers of bytes for each stream and each program, and the first late unit
pub record Measured : Type 0 where
  pub streams : List StreamFullness
  pub programs : List SystemFullness
  pub late : Option LateUnit

-- the greatest numbers of bytes over all moments in the transport and in the main buffer of a stream, filled by these
-- packets with these units
pub record IsTwoBuffers (rate base0 : ℕ) (s : DescribedStream) (units : List AccessUnit) (packets : List Packet) (most_transport most_main : ℕ) : Type 0 where
  pub transport : IsPeak (λ x. tb_fullness rate s.rx x (slots_of packets)) most_transport
  pub main : IsPeak (λ x. mb_fullness rate s.rx x (timed_pes_packets s.stream_id base0 units) (pes_left rate s.rx 0 packets)) most_main

-- the greatest numbers of bytes over all moments in MB and in EB of a stream with a multiplexing buffer, filled by these packets with these units, by the
-- leak method (ISO/IEC 13818-1, 2.4.2.3) if EB is never full
pub record IsVideoFullness (rate base0 : ℕ) (s : DescribedStream) (units : List AccessUnit) (packets : List Packet) (b : MultiplexingBuffer)
    (f : VideoFullness) : Type 0 where
  pub multiplexing : IsPeak (λ x. multiplexing_fullness rate s.rx b.rbx x packets) f.multiplexing
  pub elementary : IsPeak (λ x. elementary_fullness rate s.rx b.rbx x (timed_pes_packets s.stream_id base0 units) packets) f.elementary

-- a stream has these two numbers exactly if it has a multiplexing buffer
unfoldable pub HasVideoFullness : ℕ → ℕ → DescribedStream → List AccessUnit → List Packet → Option MultiplexingBuffer → Option VideoFullness → Type 0
HasVideoFullness rate base0 s units packets None None = Unit {0}
HasVideoFullness rate base0 s units packets None (Some f) = ⊥
HasVideoFullness rate base0 s units packets (Some b) None = ⊥
HasVideoFullness rate base0 s units packets (Some b) (Some f) = IsVideoFullness rate base0 s units packets b f

-- the greatest numbers of bytes over all moments in the transport and in the main buffer of a stream, filled by these
-- packets with these units, and in the two buffers of its video
pub record IsStreamFullness (rate base0 : ℕ) (s : DescribedStream) (units : List AccessUnit) (packets : List Packet) (f : StreamFullness) : Type 0 where
  pub transport : IsPeak (λ x. tb_fullness rate s.rx x (slots_of packets)) f.transport
  pub main : IsPeak (λ x. mb_fullness rate s.rx x (timed_pes_packets s.stream_id base0 units) (pes_left rate s.rx 0 packets)) f.main
  pub video : HasVideoFullness rate base0 s units packets s.multiplexing f.video

-- the fullness of each stream of a description
pub record StreamsMeasured (d : Described) (units : List (ℕ × AccessUnit)) (bytes : List ℕ) (found : List StreamFullness) : Type 0 where
  pub count : length found ≡ length d.streams
  pub each : (number : ℕ) (s : DescribedStream) (f : StreamFullness) → slice_get d.streams number ≡ Some s → slice_get found number ≡ Some f →
      IsStreamFullness d.rate d.base0 s (units_of number units) (packets_on s.pid bytes) f

-- the greatest numbers of bytes over all moments in the two buffers of a program's tables, filled by the packets with
-- these indices
pub record IsSystemFullness (rate : ℕ) (slots : List ℕ) (f : SystemFullness) : Type 0 where
  pub transport : IsPeak (λ x. system_tb_fullness rate x slots) f.transport
  pub system : IsPeak (λ x. bsys_fullness rate x slots) f.system

-- the fullness of each program of a description
pub record SystemsMeasured (d : Described) (bytes : List ℕ) (found : List SystemFullness) : Type 0 where
  pub count : length found ≡ length d.programs
  pub each : (number : ℕ) (p : DescribedProgram) (f : SystemFullness) → slice_get d.programs number ≡ Some p → slice_get found number ≡ Some f →
      IsSystemFullness d.rate (table_packets p.pmt_pid bytes) f

-- the number of the first unit of a stream that is due in a run of `slots` slots and has not left its transport buffer
-- whole by its decoding time stamp
abbrev pub late_of : ℕ → ℕ → ℕ → DescribedStream → List AccessUnit → List Packet → Option ℕ
late_of rate base0 slots s units packets =
    first_late rate s.rx slots 0 (timed_pes_packets s.stream_id base0 units) (pes_left rate s.rx 0 packets)

-- the same for a stream with a multiplexing buffer: a unit has to be whole in the elementary stream buffer by then, a later moment, since each byte enters
-- this buffer after it has left the transport buffer
abbrev pub late_in_video : ℕ → ℕ → ℕ → DescribedStream → List AccessUnit → List Packet → MultiplexingBuffer → Option ℕ
late_in_video rate base0 slots s units packets b =
    first_late rate (s.rx * b.rbx) slots 0 (timed_pes_packets s.stream_id base0 units) (multiplexing_left rate s.rx b.rbx packets)

unfoldable pub late_in : ℕ → ℕ → ℕ → DescribedStream → List AccessUnit → List Packet → Option MultiplexingBuffer → Option ℕ
late_in rate base0 slots s units packets None = late_of rate base0 slots s units packets
late_in rate base0 slots s units packets (Some b) = late_in_video rate base0 slots s units packets b

-- a late unit of a stream, or otherwise the late unit of the later streams
abbrev pub late_or : ℕ → Option ℕ → Option LateUnit → Option LateUnit
late_or stream None later = later
late_or stream (Some number) later = Some (record { stream = stream; number = number })

-- the first late unit of these streams, which have the numbers from `number` on
unfoldable pub late_from : Described → List (ℕ × AccessUnit) → List ℕ → ℕ → List DescribedStream → Option LateUnit
late_from d units bytes number [] = None
late_from d units bytes number (s ∷ streams) =
    late_or number (late_in d.rate d.base0 (length bytes / 188) s (units_of number units) (packets_on s.pid bytes) s.multiplexing)
    (late_from d units bytes (number + 1) streams)

-- the first late unit, by stream and then by its number among the stream's units
abbrev pub late_unit : Described → List (ℕ × AccessUnit) → List ℕ → Option LateUnit
late_unit d units bytes = late_from d units bytes 0 d.streams
