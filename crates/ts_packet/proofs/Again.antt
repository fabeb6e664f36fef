-- A packet is read back from its bytes.
use Rattle.std.proofs.Common.{◌≡◌, ℕ, suc, ◌+◌, ◌*◌, ◌/◌, ◌%◌, ◌<◌, ◌≤◌, ◌==◌, Bool, true, false, List, [], ◌∷◌, ◌++◌, length, take, drop, Option, Some, None}
use Rattle.std.proofs.Common.{is_some, Ok, refl, ap, ◌∙◌, subst, arith, ℤ, nat_lt, drop_at, le-ltb, lit<, eq-eqb}
use Rattle.std.proofs.lemmas.List.{length-append}
use lib.Seq.{take-append_seam}
use Rattle.bit_fields.specs.Fields.{fields, bit, flag}
use Rattle.bit_fields.proofs.Bind.{bind_at, guarded}
use Rattle.bit_fields.proofs.Fields.{test_bit}
use Rattle.clock27.specs.Reference.{Reference}
use Rattle.ts_packet.specs.declared.header.Header.{Header}
use Rattle.ts_packet.specs.declared.packet.PacketError.TheVariants.{FieldTooLong, PartTooLong}
use Rattle.ts_packet.specs.Views.{FieldView, AdaptationView, NoFlags, WithFlags, PacketView}
use Rattle.ts_packet.specs.Syntax.{control_of, IsHeader, IsReference, IsCountdown, IsLengthPrefixed, IsAnnounced, IsParts, IsAdaptation, IsPayload, IsPacket}
use Rattle.ts_packet.specs.Reading.{reference_of, reference_at, countdown_at, length_prefixed_at, parts_at, adaptation_at, field_at, body_at, header_of}
use Rattle.ts_packet.specs.Reading.{packet_at}

-- A clock reference is read back from its six bytes.
reference_again : (wire : List ℕ) (reference : Reference) → IsReference wire reference → reference_of wire ≡ reference
unfolding reference_of
reference_again (a ∷ b ∷ c ∷ d ∷ e ∷ f ∷ []) reference is =
    let p : a < 256 = is.bytes 0 in
    let q : b < 256 = is.bytes 1 in
    let r : c < 256 = is.bytes 2 in
    let s : d < 256 = is.bytes 3 in
    let t : e < 256 = is.bytes 4 in
    let u : f < 256 = is.bytes 5 in
    let spelled = is.spelled in
    let reserved = is.reserved_fits in
    let base_fits = is.fits.base in
    let extension_fits = is.fits.extension in
    let base : (((a * 256 + b) * 256 + c) * 256 + d) * 2 + e / 128 ≡ reference.base = omega arith in
    let extension : e % 2 * 256 + f ≡ reference.extension = omega arith in
    let whole : reference_of (a ∷ b ∷ c ∷ d ∷ e ∷ f ∷ []) ≡ record { base = reference.base; extension = reference.extension } = cc in
    whole
reference_again _ reference is = absurd (omega (arith, is.size))

-- A clock reference and the bytes after it
reference_read : (flagged : Bool) (part : Option Reference) (wire rest : List ℕ) → flagged ≡ is_some part → IsAnnounced IsReference wire part
    → reference_at flagged (wire ++ rest) ≡ Ok (part, rest)
unfolding reference_at
reference_read flagged None wire rest e is = rw (e, is) refl
reference_read flagged (Some reference) (a ∷ b ∷ c ∷ d ∷ f ∷ g ∷ []) rest e is =
    let long : nat_lt (length ((a ∷ b ∷ c ∷ d ∷ f ∷ g ∷ []) ++ rest)) 6 ≡ false = le-ltb _ _ (omega arith) in
    let same : reference_of (a ∷ b ∷ c ∷ d ∷ f ∷ g ∷ []) ≡ reference = reference_again (a ∷ b ∷ c ∷ d ∷ f ∷ g ∷ []) reference is in
    rw e (guarded _ PartTooLong _ long ∙ ap (λ (r : Reference). Ok (Some r, rest)) same)
reference_read flagged (Some reference) _ rest e is = absurd (omega (arith, is.size))

countdown_read : (flagged : Bool) (part : Option ℤ) (wire rest : List ℕ) → flagged ≡ is_some part → IsAnnounced IsCountdown wire part
    → countdown_at flagged (wire ++ rest) ≡ Ok (part, rest)
unfolding countdown_at
countdown_read flagged None wire rest e is = rw (e, is) refl
countdown_read flagged (Some countdown) wire rest e is = rw (e, is.is, is.signed) refl

length_prefixed_read : (flagged : Bool) (part : Option (List ℕ)) (wire rest : List ℕ) → flagged ≡ is_some part → IsAnnounced IsLengthPrefixed wire part
    → length_prefixed_at flagged (wire ++ rest) ≡ Ok (part, rest)
unfolding length_prefixed_at
length_prefixed_read flagged None wire rest e is = rw (e, is) refl
length_prefixed_read flagged (Some counted) wire rest e is =
    let long : nat_lt (length (counted ++ rest)) (length counted) ≡ false = le-ltb _ _ (omega (arith, length-append counted rest)) in
    let front : take (length counted) (counted ++ rest) ≡ counted = take-append_seam counted rest in
    let after : drop (length counted) (counted ++ rest) ≡ rest = drop_at counted rest (length counted) refl in
    rw (e, is) (guarded _ PartTooLong _ long ∙ ap (λ (l : List ℕ). Ok (Some l, drop (length counted) (counted ++ rest))) front
    ∙ ap (λ (l : List ℕ). Ok (Some counted, l)) after)

-- The bit of a flag is below 2.
pub bit_below : (b : Bool) → bit b < 2
bit_below true = lit< tt
bit_below false = lit< tt

-- Each flag of a byte of flags is read back.
record FlagsRead (flags p q r s t u v w : ℕ) : Type 0 where
  first : flags / 128 % 2 ≡ p
  second : flags / 64 % 2 ≡ q
  third : flags / 32 % 2 ≡ r
  fourth : flags / 16 % 2 ≡ s
  fifth : flags / 8 % 2 ≡ t
  sixth : flags / 4 % 2 ≡ u
  seventh : flags / 2 % 2 ≡ v
  eighth : flags / 1 % 2 ≡ w

flags_read : (flags p q r s t u v w : ℕ) → p < 2 → q < 2 → r < 2 → s < 2 → t < 2 → u < 2 → v < 2 → w < 2
    → flags ≡ fields ((1, p) ∷ (1, q) ∷ (1, r) ∷ (1, s) ∷ (1, t) ∷ (1, u) ∷ (1, v) ∷ (1, w) ∷ []) → FlagsRead flags p q r s t u v w
flags_read flags p q r s t u v w a b c d e f g h is = record {
  first = omega arith;
  second = omega arith;
  third = omega arith;
  fourth = omega arith;
  fifth = omega arith;
  sixth = omega arith;
  seventh = omega arith;
  eighth = omega arith;
}

-- The flags, and the parts that they announce, are read back.
parts_read : (body : List ℕ) (parts : FieldView) → IsParts body parts → adaptation_at body ≡ Ok (WithFlags parts)
unfolding adaptation_at parts_at
parts_read body parts is =
    let bits = flags_read is.flags _ _ _ _ _ _ _ _ (bit_below parts.discontinuity_indicator) (bit_below parts.random_access_indicator)
    (bit_below parts.elementary_stream_priority_indicator)
    (bit_below (is_some parts.pcr)) (bit_below (is_some parts.opcr)) (bit_below (is_some parts.splice_countdown))
    (bit_below (is_some parts.private_data)) (bit_below (is_some parts.extension)) is.flagged in
    let discontinuity_indicator : flag is.flags 128 ≡ parts.discontinuity_indicator = test_bit parts.discontinuity_indicator _ bits.first in
    let random_access_indicator : flag is.flags 64 ≡ parts.random_access_indicator = test_bit parts.random_access_indicator _ bits.second in
    let priority : flag is.flags 32 ≡ parts.elementary_stream_priority_indicator = test_bit parts.elementary_stream_priority_indicator _ bits.third in
    let rest-extension = parts.stuffing in
    let rest-private = is.extension ++ rest-extension in
    let rest-splice = is.private ++ rest-private in
    let rest-opcr = is.splice ++ rest-splice in
    let rest-pcr = is.opcr ++ rest-opcr in
    let pcr = reference_read (flag is.flags 16) parts.pcr is.pcr rest-pcr (test_bit (is_some parts.pcr) _ bits.fourth) is.is_pcr in
    let opcr = reference_read (flag is.flags 8) parts.opcr is.opcr rest-opcr (test_bit (is_some parts.opcr) _ bits.fifth) is.is_opcr in
    let splice = countdown_read (flag is.flags 4) parts.splice_countdown is.splice rest-splice (test_bit (is_some parts.splice_countdown) _ bits.sixth)
    is.is_splice in
    let private = length_prefixed_read (flag is.flags 2) parts.private_data is.private rest-private (test_bit (is_some parts.private_data) _ bits.seventh)
    is.is_private in
    let extension = length_prefixed_read (flag is.flags 1) parts.extension is.extension rest-extension (test_bit (is_some parts.extension) _ bits.eighth)
    is.is_extension in
    let read : parts_at is.flags (is.pcr ++ rest-pcr) ≡ Ok parts =
    bind_at _ _ (parts.pcr, rest-pcr) pcr
    ∙ bind_at _ _ (parts.opcr, rest-opcr) opcr
    ∙ bind_at _ _ (parts.splice_countdown, rest-splice) splice
    ∙ bind_at _ _ (parts.private_data, rest-private) private
    ∙ bind_at _ _ (parts.extension, rest-extension) extension
    ∙ rw (discontinuity_indicator, random_access_indicator, priority) refl in
    rw is.is (bind_at _ _ parts read)

-- An adaptation field of length 0 has no flags.
no_flags : adaptation_at [] ≡ Ok NoFlags
unfolding adaptation_at
no_flags = refl

-- An adaptation field and the bytes after it
field_read : (most : ℕ) (field rest : List ℕ) (adaptation : AdaptationView) → IsAdaptation field (Some adaptation) → length field ≤ most + 1
    → field_at most (field ++ rest) ≡ Ok (adaptation, rest)
unfolding field_at
field_read most field rest NoFlags is short =
    let fits : nat_lt most 0 ≡ false = le-ltb _ _ (omega arith) in
    rw is (guarded _ FieldTooLong _ fits ∙ bind_at _ _ NoFlags no_flags)
field_read most field rest (WithFlags parts) is short =
    let body = is.body in
    let size : length field ≡ suc (length body) = ap (length {A = ℕ}) is.is in
    let fits : nat_lt most (length body) ≡ false = le-ltb _ _ (omega arith) in
    let front : take (length body) (body ++ rest) ≡ body = take-append_seam body rest in
    let after : drop (length body) (body ++ rest) ≡ rest = drop_at body rest (length body) refl in
    let read : adaptation_at (take (length body) (body ++ rest)) ≡ Ok (WithFlags parts) = rw front (parts_read body parts is.parted) in
    rw is.is (guarded _ FieldTooLong _ fits ∙ bind_at _ _ (WithFlags parts) read ∙ ap (λ (l : List ℕ). Ok (WithFlags parts, l)) after)

-- The bytes after the header
body_read : (header : Header) (adaptation : Option AdaptationView) (payload : Option (List ℕ)) (field rest : List ℕ) → IsAdaptation field adaptation →
    IsPayload rest payload
    → 0 < control_of adaptation payload → length (field ++ rest) ≡ 184
    → body_at header (control_of adaptation payload) (field ++ rest) ≡ Ok (record { header = header; adaptation = adaptation; payload = payload })
unfolding body_at
body_read header None None field rest a p some size = absurd (omega arith)
body_read header None (Some payload) field rest a p some size = rw (a, p.0) refl
body_read header (Some adaptation) None field rest a p some size =
    let all : length (field ++ rest) ≡ length field + length rest = length-append field rest in
    bind_at _ _ (adaptation, rest) (field_read 183 field rest adaptation a (omega arith))
body_read header (Some adaptation) (Some payload) field rest a p some size =
    let all : length (field ++ rest) ≡ length field + length rest = length-append field rest in
    let left : length rest ≡ length payload = ap (length {A = ℕ}) p.0 in
    bind_at _ _ (adaptation, rest) (field_read 182 field rest adaptation a (omega (arith, p.1)))
    ∙ ap (λ (l : List ℕ). Ok (record { header = header; adaptation = Some adaptation; payload = Some l })) p.0

-- adaptation_field_control has two bits.
pub control_below : {A P : Type 0} (adaptation : Option A) (payload : Option P) → control_of adaptation payload < 4
control_below None None = lit< tt
control_below None (Some p) = lit< tt
control_below (Some a) None = lit< tt
control_below (Some a) (Some p) = lit< tt

-- The fields of a header in its four bytes
record HeaderRead (a b c d : ℕ) (rest : List ℕ) (header : Header) (control : ℕ) : Type 0 where
  sync : a ≡ 0x47
  controlled : d / 16 % 4 ≡ control
  read : header_of (a ∷ b ∷ c ∷ d ∷ rest) ≡ header

header_read : (a b c d : ℕ) (rest : List ℕ) (header : Header) (control : ℕ) → IsHeader (a ∷ b ∷ c ∷ d ∷ []) header control → control < 4 →
    HeaderRead a b c d rest header control
unfolding header_of
header_read a b c d rest header control is below =
    let p : a < 256 = is.bytes 0 in
    let q : b < 256 = is.bytes 1 in
    let r : c < 256 = is.bytes 2 in
    let s : d < 256 = is.bytes 3 in
    let spelled = is.spelled in
    let pid_fits = is.fits.pid in
    let scrambling_fits = is.fits.transport_scrambling_control in
    let counter_fits = is.fits.continuity_counter in
    let t : bit header.transport_error_indicator < 2 = bit_below header.transport_error_indicator in
    let u : bit header.payload_unit_start_indicator < 2 = bit_below header.payload_unit_start_indicator in
    let v : bit header.transport_priority < 2 = bit_below header.transport_priority in
    let error : flag b 128 ≡ header.transport_error_indicator = test_bit header.transport_error_indicator (b / 128 % 2) (omega arith) in
    let start : flag b 64 ≡ header.payload_unit_start_indicator = test_bit header.payload_unit_start_indicator (b / 64 % 2) (omega arith) in
    let priority : flag b 32 ≡ header.transport_priority = test_bit header.transport_priority (b / 32 % 2) (omega arith) in
    let pid : b % 32 * 256 + c ≡ header.pid = omega arith in
    let scrambling : d / 64 ≡ header.transport_scrambling_control = omega arith in
    let counter : d % 16 ≡ header.continuity_counter = omega arith in
    record { sync = omega arith; controlled = omega arith; read = rw (error, start, priority, pid, scrambling, counter) refl }

front_read : (front field rest : List ℕ) (packet : PacketView) → IsHeader front packet.header (control_of packet.adaptation packet.payload) →
    IsAdaptation field packet.adaptation
    → IsPayload rest packet.payload → 0 < control_of packet.adaptation packet.payload → length (front ++ (field ++ rest)) ≡ 188 →
    packet_at (front ++ (field ++ rest)) ≡ Ok packet
unfolding packet_at
front_read (a ∷ b ∷ c ∷ d ∷ []) field rest packet is adaptation payload some size =
    let control = control_of packet.adaptation packet.payload in
    let front = header_read a b c d (field ++ rest) packet.header control is (control_below packet.adaptation packet.payload) in
    let synced : (a == 0x47) ≡ true = eq-eqb a 0x47 front.sync in
    rw (synced, front.controlled, front.read)
    (body_read packet.header packet.adaptation packet.payload field rest adaptation payload some (omega arith))
front_read _ field rest packet is adaptation payload some size = absurd (omega (arith, is.size))

pub packet_read : (bytes : List ℕ) (packet : PacketView) → IsPacket bytes packet → packet_at bytes ≡ Ok packet
packet_read bytes packet is =
    rw is.is (front_read is.front is.field is.rest packet is.header is.adaptation is.payload is.not_reserved
    (subst (λ (l : List ℕ). length l ≡ 188) is.is is.size))
