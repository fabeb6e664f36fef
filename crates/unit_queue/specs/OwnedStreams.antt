-- A stream on its own slots: its PES packets, and when each is first sent.
use Rattle.std.specs.Prelude.{ℕ, ◌+◌, Bool, List, length}
use Rattle.pes_packet.specs.AccessUnits.{AccessUnit}
use Rattle.pes_packet.specs.Encoding.{pes_packet_bytes}
use Rattle.pes_packet.specs.Marks.{field_size}
use Rattle.unit_timing.specs.PesPacket.{PesPacket, packets_of_unit}
use Rattle.unit_timing.specs.Schedule.{first_slot as first_own_slot}
use Rattle.unit_queue.specs.declared.parameters.StreamParameters.{StreamParameters}

-- a stream: which slots are its own, over all time, and what it declares about its units
pub record OwnedStream : Type 0 where
  pub own : ℕ → Bool
  pub parameters : StreamParameters

-- the PES packet of a unit (ISO/IEC 13818-1, 2.4.3.6)
abbrev pub pes_bytes : OwnedStream → AccessUnit → List ℕ
pes_bytes l u = pes_packet_bytes l.parameters.stream_id l.parameters.base0 u

-- a decoder may begin with the unit: then two bytes of an adaptation field precede it
abbrev pub has_access : AccessUnit → Bool
has_access u = u.marks.random_access

-- the unit in the model of timing: the decoding time stamp, the size in bytes, and the bytes in front of them
abbrev pub timed : OwnedStream → AccessUnit → PesPacket
timed l u = record { dts = u.dts; size = length (pes_bytes l u); front = field_size (has_access u) }

-- the number of transport packets that carry the unit
abbrev pub packet_count : OwnedStream → AccessUnit → ℕ
packet_count l u = packets_of_unit (timed l u)

-- the number of the own slot where the unit begins: no slot before its release, and none of the first `free` own slots, which are taken
unfoldable pub first_slot : OwnedStream → ℕ → AccessUnit → ℕ
first_slot l free u = first_own_slot l.own l.parameters.rate l.parameters.lead free (timed l u)

-- the number of the own slot after the last packet of the unit
abbrev pub end_slot : OwnedStream → ℕ → AccessUnit → ℕ
end_slot l free u = first_slot l free u + packet_count l u
