-- The content of a packet, without its place in memory.
use Rattle.std.specs.Prelude.{ℕ, ℤ, List, Bool, Option}
use Rattle.std.specs.Option.{option_map}
use Rattle.std.specs.Borrow.{Bor}
use Rattle.clock27.specs.Reference.{Reference}
use Rattle.ts_packet.specs.declared.header.Header.{Header}
use Rattle.ts_packet.specs.declared.adaptation.ClockReference.{ClockReference}
use Rattle.ts_packet.specs.declared.adaptation.AdaptationField.{AdaptationField}
use Rattle.ts_packet.specs.declared.adaptation.Adaptation.{Adaptation}
use Rattle.ts_packet.specs.declared.adaptation.Adaptation.TheVariants.{Empty, Flagged}
use Rattle.ts_packet.specs.declared.packet.Packet.{Packet}

-- the parts of an adaptation field from its flags on (ISO/IEC 13818-1, 2.4.3.4)
pub record FieldView : Type 0 where
  pub discontinuity_indicator : Bool
  pub random_access_indicator : Bool
  pub elementary_stream_priority_indicator : Bool
  pub pcr : Option Reference
  pub opcr : Option Reference
  pub splice_countdown : Option ℤ
  pub private_data : Option (List ℕ)
  pub extension : Option (List ℕ)
  pub stuffing : List ℕ

-- an adaptation field: of length 0, or flags and the parts that they announce
pub data AdaptationView : Type 0 where
  NoFlags : AdaptationView
  WithFlags : FieldView → AdaptationView

-- a packet
pub record PacketView : Type 0 where
  pub header : Header
  pub adaptation : Option AdaptationView
  pub payload : Option (List ℕ)

-- the bytes of a slice that may be there
abbrev pub bytes_view : Option (Bor (List ℕ)) → Option (List ℕ)
bytes_view slice = option_map (λ s. s.now) slice

-- a clock reference as clock27 names its fields
abbrev pub reference_view : ClockReference → Reference
reference_view reference = record { base = reference.base; extension = reference.extension }

abbrev pub field_view : AdaptationField → FieldView
field_view parts = record {
  discontinuity_indicator = parts.discontinuity_indicator;
  random_access_indicator = parts.random_access_indicator;
  elementary_stream_priority_indicator = parts.elementary_stream_priority_indicator;
  pcr = option_map reference_view parts.pcr;
  opcr = option_map reference_view parts.opcr;
  splice_countdown = parts.splice_countdown;
  private_data = bytes_view parts.private_data;
  extension = bytes_view parts.extension;
  stuffing = parts.stuffing.now;
}

abbrev pub adaptation_view : Adaptation → AdaptationView
adaptation_view Empty = NoFlags
adaptation_view (Flagged parts) = WithFlags (field_view parts)

abbrev pub packet_view : Packet → PacketView
packet_view packet = record {
  header = packet.header;
  adaptation = option_map adaptation_view packet.adaptation;
  payload = bytes_view packet.payload;
}
