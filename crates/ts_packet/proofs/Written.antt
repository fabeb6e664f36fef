-- The bytes that are written for a packet are the packet.
use Rattle.std.proofs.Common.{◌≡◌, ℕ, ℤ, ◌+◌, ◌/◌, ◌%◌, ◌^◌, ◌<◌, List, [], ◌∷◌, ◌++◌, length, Option, Some, None, IfSome, refl, sym, ap, arith, lit<}
use Rattle.std.proofs.lemmas.List.{length-append}
use Rattle.std.proofs.lemmas.Int.{to_z-of_z}
use Rattle.std.specs.Prelude.{FitsSigned}
use Rattle.std.specs.Int.{cast_unsigned, w8}
use Rattle.bit_fields.specs.Fields.{fields, bit, IsBytes}
use Rattle.bit_fields.proofs.ByteLists.{IsBytes-cons, IsBytes-nil}
use Rattle.clock27.specs.Reference.{Reference}
use Rattle.ts_packet.specs.declared.header.Header.{Header}
use Rattle.ts_packet.specs.Views.{FieldView, AdaptationView, NoFlags, WithFlags, PacketView}
use Rattle.ts_packet.specs.Syntax.{control_of, HeaderFits, IsHeader, ReferenceFits, IsReference, IsCountdown, IsLengthPrefixed, IsAnnounced, IsParts}
use Rattle.ts_packet.specs.Syntax.{IsAdaptation, IsPayload, IsPacket}
use Rattle.ts_packet.specs.Writing.{header_bytes, reference_bytes, optional_bytes, countdown_bytes, length_prefixed_bytes, flags_of, parts_bytes}
use Rattle.ts_packet.specs.Writing.{adaptation_bytes, payload_bytes, packet_bytes, PartsFit, AdaptationFits, PayloadFits, PacketFits}
use Rattle.ts_packet.specs.Laws.{PacketsAgain}
use Rattle.ts_packet.proofs.Again.{bit_below, control_below, packet_read}

bytes_four : (a b c d : ℕ) → a < 256 → b < 256 → c < 256 → d < 256 → IsBytes (a ∷ b ∷ c ∷ d ∷ [])
bytes_four a b c d p q r s =
    IsBytes-cons a (b ∷ c ∷ d ∷ []) p (IsBytes-cons b (c ∷ d ∷ []) q (IsBytes-cons c (d ∷ []) r (IsBytes-cons d [] s IsBytes-nil)))

bytes_six : (a b c d e f : ℕ) → a < 256 → b < 256 → c < 256 → d < 256 → e < 256 → f < 256 → IsBytes (a ∷ b ∷ c ∷ d ∷ e ∷ f ∷ [])
bytes_six a b c d e f p q r s t u =
    IsBytes-cons a (b ∷ c ∷ d ∷ e ∷ f ∷ []) p (IsBytes-cons b (c ∷ d ∷ e ∷ f ∷ []) q (bytes_four c d e f r s t u))

reference_written : (reference : Reference) → ReferenceFits reference → IsReference (reference_bytes reference) reference
unfolding reference_bytes
reference_written reference fits =
    let base = fits.base in
    let extension = fits.extension in
    record {
      reserved = 0x3F;
      reserved_fits = lit< tt;
      bytes = bytes_six (reference.base / 2 ^ 25) (reference.base / 2 ^ 17 % 256) (reference.base / 2 ^ 9 % 256) (reference.base / 2 % 256)
          (fields ((1, reference.base % 2) ∷ (6, 0x3F) ∷ (1, reference.extension / 256) ∷ [])) (reference.extension % 256)
          (omega arith) (omega arith) (omega arith) (omega arith) (omega arith) (omega arith);
      size = refl;
      spelled = omega arith;
      fits = fits;
    }

announced_reference : (part : Option Reference) → IfSome part ReferenceFits → IsAnnounced IsReference (optional_bytes reference_bytes part) part
announced_reference None fits = refl
announced_reference (Some reference) fits = reference_written reference fits

announced_countdown : (part : Option ℤ) → IfSome part (FitsSigned w8) → IsAnnounced IsCountdown (optional_bytes countdown_bytes part) part
announced_countdown None fits = refl
announced_countdown (Some countdown) fits = record { byte = cast_unsigned w8 countdown; is = refl; signed = sym (to_z-of_z w8 countdown fits) }

announced_length_prefixed : (part : Option (List ℕ)) → IsAnnounced IsLengthPrefixed (optional_bytes length_prefixed_bytes part) part
announced_length_prefixed None = refl
announced_length_prefixed (Some counted) = refl

parts_written : (parts : FieldView) → PartsFit parts → IsParts (flags_of parts ∷ parts_bytes parts) parts
unfolding flags_of parts_bytes
parts_written parts fits = record {
  flags = flags_of parts;
  pcr = optional_bytes reference_bytes parts.pcr;
  opcr = optional_bytes reference_bytes parts.opcr;
  splice = optional_bytes countdown_bytes parts.splice_countdown;
  private = optional_bytes length_prefixed_bytes parts.private_data;
  extension = optional_bytes length_prefixed_bytes parts.extension;
  is = refl;
  flagged = refl;
  is_pcr = announced_reference parts.pcr fits.pcr;
  is_opcr = announced_reference parts.opcr fits.opcr;
  is_splice = announced_countdown parts.splice_countdown fits.splice_countdown;
  is_private = announced_length_prefixed parts.private_data;
  is_extension = announced_length_prefixed parts.extension;
}

adaptation_written : (adaptation : Option AdaptationView) → AdaptationFits adaptation → IsAdaptation (optional_bytes adaptation_bytes adaptation) adaptation
unfolding adaptation_bytes
adaptation_written None fits = refl
adaptation_written (Some NoFlags) fits = refl
adaptation_written (Some (WithFlags parts)) fits =
    let size : 1 + length (parts_bytes parts) ≡ length (flags_of parts ∷ parts_bytes parts) = omega arith in
    record {
      body = flags_of parts ∷ parts_bytes parts;
      is = ap (λ (n : ℕ). n ∷ flags_of parts ∷ parts_bytes parts) size;
      parted = parts_written parts fits;
    }

payload_written : (payload : Option (List ℕ)) → PayloadFits payload → IsPayload (payload_bytes payload) payload
payload_written None fits = tt
payload_written (Some payload) fits = (refl, fits)

header_written : (header : Header) (control : ℕ) → HeaderFits header → control < 4 → IsHeader (header_bytes header control) header control
unfolding header_bytes
header_written header control fits below =
    let pid = fits.pid in
    let scrambling = fits.transport_scrambling_control in
    let counter = fits.continuity_counter in
    let t : bit header.transport_error_indicator < 2 = bit_below header.transport_error_indicator in
    let u : bit header.payload_unit_start_indicator < 2 = bit_below header.payload_unit_start_indicator in
    let v : bit header.transport_priority < 2 = bit_below header.transport_priority in
    record {
      bytes = bytes_four 0x47
          (fields ((1, bit header.transport_error_indicator) ∷ (1, bit header.payload_unit_start_indicator) ∷ (1, bit header.transport_priority) ∷
          (5, header.pid / 256) ∷ []))
          (header.pid % 256) (fields ((2, header.transport_scrambling_control) ∷ (2, control) ∷ (4, header.continuity_counter) ∷ []))
          (lit< tt) (omega arith) (omega arith) (omega arith);
      size = refl;
      spelled = omega arith;
      fits = fits;
    }

length-header_bytes : (header : Header) (control : ℕ) → length (header_bytes header control) ≡ 4
unfolding header_bytes
length-header_bytes header control = refl

-- A packet has a payload or an adaptation field.
not_reserved : (adaptation : Option AdaptationView) (payload : Option (List ℕ)) → 4 + length (optional_bytes adaptation_bytes adaptation)
    + length (payload_bytes payload) ≡ 188
    → 0 < control_of adaptation payload
not_reserved None None size = absurd (omega arith)
not_reserved None (Some payload) size = lit< tt
not_reserved (Some adaptation) None size = lit< tt
not_reserved (Some adaptation) (Some payload) size = lit< tt

packet_written : (packet : PacketView) → PacketFits packet → IsPacket (packet_bytes packet) packet
unfolding packet_bytes
packet_written packet fits =
    let control = control_of packet.adaptation packet.payload in
    let front = header_bytes packet.header control in
    let field = optional_bytes adaptation_bytes packet.adaptation in
    let rest = payload_bytes packet.payload in
    let size = fits.size in
    let four : length front ≡ 4 = length-header_bytes packet.header control in
    let outer : length (front ++ (field ++ rest)) ≡ length front + length (field ++ rest) = length-append front (field ++ rest) in
    let inner : length (field ++ rest) ≡ length field + length rest = length-append field rest in
    record {
      front = front;
      field = field;
      rest = rest;
      is = refl;
      size = omega arith;
      header = header_written packet.header control fits.header (control_below packet.adaptation packet.payload);
      adaptation = adaptation_written packet.adaptation fits.adaptation;
      payload = payload_written packet.payload fits.payload;
      not_reserved = not_reserved packet.adaptation packet.payload fits.size;
    }

pub packets_again : PacketsAgain
packets_again packet fits =
    let is = packet_written packet fits in
    record { size = is.size; says = is; read = packet_read (packet_bytes packet) packet is }
