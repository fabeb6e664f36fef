-- The syntax of a transport packet, as the standard's tables of fields (ISO/IEC 13818-1, 2.4.3.2 to 2.4.3.5).
use Rattle.std.specs.Prelude.{◌≡◌, ℕ, ℤ, ◌^◌, ◌<◌, List, [], ◌∷◌, ◌++◌, length, Option, Some, None, is_some, ⊤}
use Rattle.std.specs.Int.{cast_signed, w8}
use Rattle.bit_fields.specs.Fields.{number, fields, bit, IsBytes}
use Rattle.clock27.specs.Reference.{Reference}
use Rattle.ts_packet.specs.declared.header.Header.{Header}
use Rattle.ts_packet.specs.Views.{FieldView, AdaptationView, NoFlags, WithFlags, PacketView}

-- adaptation_field_control: 0 is reserved, 1 payload alone, 2 adaptation field alone, 3 both (Table 2-5)
abbrev pub control_of : {A P : Type 0} → Option A → Option P → ℕ
control_of None None = 0
control_of None (Some _) = 1
control_of (Some _) None = 2
control_of (Some _) (Some _) = 3

-- each number of a header fits its field
pub record HeaderFits (header : Header) : Type 0 where
  pub pid : header.pid < 2 ^ 13
  pub transport_scrambling_control : header.transport_scrambling_control < 2 ^ 2
  pub continuity_counter : header.continuity_counter < 2 ^ 4

-- the header: the first four bytes of a transport_packet() (2.4.3.2)
pub record IsHeader (wire : List ℕ) (header : Header) (control : ℕ) : Type 0 where
  pub bytes : IsBytes wire
  pub size : length wire ≡ 4
  pub spelled : number wire ≡ fields
      ((8, 0x47) ∷ (1, bit header.transport_error_indicator) ∷ (1, bit header.payload_unit_start_indicator) ∷ (1, bit header.transport_priority)
      ∷ (13, header.pid) ∷ (2, header.transport_scrambling_control) ∷ (2, control) ∷ (4, header.continuity_counter) ∷ [])
  pub fits : HeaderFits header

-- the numbers of a clock reference fit their fields
pub record ReferenceFits (reference : Reference) : Type 0 where
  pub base : reference.base < 2 ^ 33
  pub extension : reference.extension < 2 ^ 9

-- a program clock reference; its six reserved bits are not looked at (2.4.3.4)
pub record IsReference (wire : List ℕ) (reference : Reference) : Type 0 where
  pub reserved : ℕ
  pub reserved_fits : reserved < 2 ^ 6
  pub bytes : IsBytes wire
  pub size : length wire ≡ 6
  pub spelled : number wire ≡ fields ((33, reference.base) ∷ (6, reserved) ∷ (9, reference.extension) ∷ [])
  pub fits : ReferenceFits reference

-- splice_countdown: a byte, in two's complement (2.4.3.4)
pub record IsCountdown (wire : List ℕ) (countdown : ℤ) : Type 0 where
  pub byte : ℕ
  pub is : wire ≡ byte ∷ []
  pub signed : countdown ≡ cast_signed w8 byte

-- transport_private_data or adaptation_field_extension: a byte of length, and that many bytes (2.4.3.4)
abbrev pub IsLengthPrefixed : List ℕ → List ℕ → Type 0
IsLengthPrefixed wire counted = wire ≡ length counted ∷ counted

-- a part that a flag announces
abbrev pub IsAnnounced : {A : Type 0} → (List ℕ → A → Type 0) → List ℕ → Option A → Type 0
IsAnnounced Is wire None = wire ≡ []
IsAnnounced Is wire (Some part) = Is wire part

-- the flags, the parts that they announce, and the stuffing (2.4.3.4)
pub record IsParts (wire : List ℕ) (parts : FieldView) : Type 0 where
  pub flags : ℕ
  pub pcr : List ℕ
  pub opcr : List ℕ
  pub splice : List ℕ
  pub private : List ℕ
  pub extension : List ℕ
  pub is : wire ≡ flags ∷ (pcr ++ (opcr ++ (splice ++ (private ++ (extension ++ parts.stuffing)))))
  pub flagged : flags ≡ fields
      ((1, bit parts.discontinuity_indicator) ∷ (1, bit parts.random_access_indicator) ∷ (1, bit parts.elementary_stream_priority_indicator)
      ∷ (1, bit (is_some parts.pcr)) ∷ (1, bit (is_some parts.opcr)) ∷ (1, bit (is_some parts.splice_countdown))
      ∷ (1, bit (is_some parts.private_data)) ∷ (1, bit (is_some parts.extension)) ∷ [])
  pub is_pcr : IsAnnounced IsReference pcr parts.pcr
  pub is_opcr : IsAnnounced IsReference opcr parts.opcr
  pub is_splice : IsAnnounced IsCountdown splice parts.splice_countdown
  pub is_private : IsAnnounced IsLengthPrefixed private parts.private_data
  pub is_extension : IsAnnounced IsLengthPrefixed extension parts.extension

-- an adaptation field: its length in bytes, and then that many bytes (2.4.3.4)
pub record IsField (wire : List ℕ) (parts : FieldView) : Type 0 where
  pub body : List ℕ
  pub is : wire ≡ length body ∷ body
  pub parted : IsParts body parts

abbrev pub IsAdaptation : List ℕ → Option AdaptationView → Type 0
IsAdaptation wire None = wire ≡ []
IsAdaptation wire (Some NoFlags) = wire ≡ 0 ∷ []
IsAdaptation wire (Some (WithFlags parts)) = IsField wire parts

-- the payload is what follows, at least one byte; without one the bytes that follow are not looked at
abbrev pub IsPayload : List ℕ → Option (List ℕ) → Type 0
IsPayload rest None = ⊤
IsPayload rest (Some payload) = (rest ≡ payload) × (0 < length payload)

-- a transport_packet(): 188 bytes, cut into header, adaptation field and payload (2.4.3.2)
pub record IsPacket (bytes : List ℕ) (packet : PacketView) : Type 0 where
  pub front : List ℕ
  pub field : List ℕ
  pub rest : List ℕ
  pub is : bytes ≡ front ++ (field ++ rest)
  pub size : length bytes ≡ 188
  pub header : IsHeader front packet.header (control_of packet.adaptation packet.payload)
  pub adaptation : IsAdaptation field packet.adaptation
  pub payload : IsPayload rest packet.payload
  pub not_reserved : 0 < control_of packet.adaptation packet.payload
