-- The written bytes: a transport packet as the concatenation of its parts (ISO/IEC 13818-1, 2.4.3.2 to 2.4.3.5).
use Rattle.std.specs.Prelude.{◌≡◌, ℕ, ℤ, ◌+◌, ◌/◌, ◌%◌, ◌^◌, ◌<◌, List, [], ◌∷◌, ◌++◌, length, All, Option, Some, None, is_some, IfSome, FitsSigned, ⊤}
use Rattle.std.specs.Int.{cast_unsigned, w8}
use Rattle.bit_fields.specs.Fields.{fields, bit}
use Rattle.std.specs.Borrow.{Bor}
use Rattle.std.specs.Option.{option_map}
use Rattle.clock27.specs.Reference.{Reference}
use Rattle.ts_packet.specs.declared.adaptation.Adaptation.{Adaptation}
use Rattle.ts_packet.specs.declared.header.Header.{Header}
use Rattle.ts_packet.specs.Views.{FieldView, AdaptationView, NoFlags, WithFlags, PacketView, adaptation_view, bytes_view}
use Rattle.ts_packet.specs.Syntax.{control_of, HeaderFits, ReferenceFits}

-- the header, with its adaptation_field_control
unfoldable pub header_bytes : Header → ℕ → List ℕ
header_bytes header control =
    0x47
    ∷ fields ((1, bit header.transport_error_indicator) ∷ (1, bit header.payload_unit_start_indicator) ∷ (1, bit header.transport_priority) ∷
    (5, header.pid / 256) ∷ [])
    ∷ header.pid % 256
    ∷ fields ((2, header.transport_scrambling_control) ∷ (2, control) ∷ (4, header.continuity_counter) ∷ [])
    ∷ []

-- a clock reference; its six reserved bits are 1
unfoldable pub reference_bytes : Reference → List ℕ
reference_bytes reference =
    reference.base / 2 ^ 25
    ∷ reference.base / 2 ^ 17 % 256
    ∷ reference.base / 2 ^ 9 % 256
    ∷ reference.base / 2 % 256
    ∷ fields ((1, reference.base % 2) ∷ (6, 0x3F) ∷ (1, reference.extension / 256) ∷ [])
    ∷ reference.extension % 256
    ∷ []

-- a part that may be there
abbrev pub optional_bytes : {A : Type 0} → (A → List ℕ) → Option A → List ℕ
optional_bytes bytes None = []
optional_bytes bytes (Some part) = bytes part

abbrev pub countdown_bytes : ℤ → List ℕ
countdown_bytes countdown = cast_unsigned w8 countdown ∷ []

-- a byte of length, and the bytes
abbrev pub length_prefixed_bytes : List ℕ → List ℕ
length_prefixed_bytes bytes = length bytes ∷ bytes

-- the byte of flags
unfoldable pub flags_of : FieldView → ℕ
flags_of parts = fields ((1, bit parts.discontinuity_indicator) ∷ (1, bit parts.random_access_indicator) ∷ (1, bit parts.elementary_stream_priority_indicator)
    ∷ (1, bit (is_some parts.pcr)) ∷ (1, bit (is_some parts.opcr)) ∷ (1, bit (is_some parts.splice_countdown))
    ∷ (1, bit (is_some parts.private_data)) ∷ (1, bit (is_some parts.extension)) ∷ [])

-- what the flags announce, and the stuffing
unfoldable pub parts_bytes : FieldView → List ℕ
parts_bytes parts =
    optional_bytes reference_bytes parts.pcr
    ++ (optional_bytes reference_bytes parts.opcr
    ++ (optional_bytes countdown_bytes parts.splice_countdown
    ++ (optional_bytes length_prefixed_bytes parts.private_data
    ++ (optional_bytes length_prefixed_bytes parts.extension
    ++ parts.stuffing))))

-- an adaptation field
unfoldable pub adaptation_bytes : AdaptationView → List ℕ
adaptation_bytes NoFlags = 0 ∷ []
adaptation_bytes (WithFlags parts) = (1 + length (parts_bytes parts)) ∷ flags_of parts ∷ parts_bytes parts

-- a payload that may be there
abbrev pub payload_bytes : Option (List ℕ) → List ℕ
payload_bytes None = []
payload_bytes (Some payload) = payload

-- a packet
unfoldable pub packet_bytes : PacketView → List ℕ
packet_bytes packet =
    header_bytes packet.header (control_of packet.adaptation packet.payload)
    ++ (optional_bytes adaptation_bytes packet.adaptation ++ payload_bytes packet.payload)

-- the numbers of an adaptation field fit their fields, and its stuffing is 0xFF
pub record PartsFit (parts : FieldView) : Type 0 where
  pub pcr : IfSome parts.pcr ReferenceFits
  pub opcr : IfSome parts.opcr ReferenceFits
  pub splice_countdown : IfSome parts.splice_countdown (FitsSigned w8)
  pub stuffing : All (λ byte. byte ≡ 0xFF) parts.stuffing

abbrev pub AdaptationFits : Option AdaptationView → Type 0
AdaptationFits None = ⊤
AdaptationFits (Some NoFlags) = ⊤
AdaptationFits (Some (WithFlags parts)) = PartsFit parts

-- a payload that is there has at least one byte
abbrev pub PayloadFits : Option (List ℕ) → Type 0
PayloadFits None = ⊤
PayloadFits (Some payload) = 0 < length payload

-- what can be written: the parts make 188 bytes, each number fits its field, stuffing is 0xFF
pub record PacketFits (packet : PacketView) : Type 0 where
  pub header : HeaderFits packet.header
  pub adaptation : AdaptationFits packet.adaptation
  pub payload : PayloadFits packet.payload
  pub size : 4 + length (optional_bytes adaptation_bytes packet.adaptation) + length (payload_bytes packet.payload) ≡ 188

-- the packet that a header, an adaptation field and a payload make
abbrev pub packet_of : Header → Option (Bor Adaptation) → Option (Bor (List ℕ)) → PacketView
packet_of header adaptation payload = record {
  header = header;
  adaptation = option_map (λ a. adaptation_view a.now) adaptation;
  payload = bytes_view payload;
}
