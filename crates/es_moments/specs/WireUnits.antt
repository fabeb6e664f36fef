-- A unit as a stream carries it.
use Rattle.std.specs.Prelude.{ℕ, List}
use Rattle.pes_packet.specs.AccessUnits.{AccessUnit}
use Rattle.pes_packet.specs.declared.marks.Marks.{Marks}

-- a unit as a stream carries it: the packet where its PES packet begins, its stream_id, and its bytes with the stamps on the wire and its first PES packet's
-- other fields
pub record CarriedUnit : Type 0 where
  pub packet : ℕ
  pub stream_id : ℕ
  pub unit : AccessUnit

-- a unit without a DTS is decoded when it is presented (ISO/IEC 13818-1, 2.4.3.7)
abbrev pub unit_with : ℕ → ℕ → ℕ → ℕ → Marks → List ℕ → CarriedUnit
unit_with packet stream_id dts pts marks bytes = record {
  packet = packet;
  stream_id = stream_id;
  unit = record { dts = dts; pts = pts; marks = marks; bytes = bytes };
}
