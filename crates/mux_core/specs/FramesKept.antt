-- The promise of the finished bytes of a run for a stream whose units are PES packets of several access units (ISO/IEC 13818-1, 2.4.2.3): the main buffer,
-- where each access unit is removed at its own decoding time, never holds more than its size.
--
-- The bytes do not show where an access unit inside a unit ends. So the promise covers every way to cut the accepted units into access units that agrees with
-- the description, including the cut that the stream really has.
use Rattle.std.specs.Prelude.{◌≡◌, ℕ, ◌≤◌, List, All}
use Rattle.pes_packet.specs.AccessUnits.{AccessUnit}
use Rattle.unit_timing.specs.declared.framing.FrameDeclaration.{FrameDeclaration}
use Rattle.unit_timing.specs.AccessUnits.{FramedPacket, KeepsFraming, Followed, packets_of, framed_fullness}
use Rattle.unit_timing.specs.Transport.{pes_left}
use Rattle.description_parts.specs.Described.{DescribedStream}
use Rattle.tstd.specs.Carried.{timed_pes_packets, packets_on}
use Rattle.mux_core.specs.Scheduled.{Scheduled}

-- a cut of these units: their access units are as the description declares them, and each unit is due after the access units of the one
-- before as the description declares
pub record CutsUnits (d : Scheduled) (s : DescribedStream) (f : FrameDeclaration) (units : List AccessUnit) (packets : List FramedPacket) : Type 0 where
  pub same : packets_of packets ≡ timed_pes_packets s.stream_id d.description.base0 units
  pub declared : All (KeepsFraming f) packets
  pub followed : Followed f 0 packets

-- at every moment x
abbrev pub FramesKept : Scheduled → DescribedStream → FrameDeclaration → List AccessUnit → List ℕ → Type 0
FramesKept d s f units bytes = (packets : List FramedPacket) (x : ℕ) → CutsUnits d s f units packets →
    framed_fullness d.description.rate s.rx x f.frame packets (pes_left d.description.rate s.rx 0 (packets_on s.pid bytes)) ≤ s.main
