-- In a packet of 188 bytes with a clock reference the payload is after the reference.
use Rattle.std.proofs.Common.{◌≡◌, ◌∙◌, sym, ℕ, ◌+◌, ◌≤◌, Bool, true, false, is_some, List, [], ◌∷◌, length, take, drop, Option, Some, None, Result, Ok, Err}
use Rattle.std.proofs.Common.{if◌then◌else◌, refl, ap, arith}
use Rattle.std.specs.Prelude.{◌==◌, ◌/◌, ◌%◌, nat_lt, slice_index, unwrap_or}
use Rattle.std.proofs.lemmas.Bool.Decides.{nat_tests}
use Rattle.std.proofs.lemmas.List.{length-drop, length-take}
use Rattle.bit_fields.specs.Fields.{flag}
use Rattle.bit_fields.specs.Reading.{◌>>=◌}
use Rattle.bit_fields.proofs.Bind.{bind_ok, guard_ok}
use Rattle.clock27.specs.Reference.{Reference}
use Rattle.ts_packet.specs.declared.header.Header.{Header}
use Rattle.ts_packet.specs.declared.packet.PacketError.{PacketError}
use Rattle.ts_packet.specs.declared.packet.PacketError.TheVariants.{Sync, ReservedControl, FieldTooLong, PartTooLong}
use Rattle.ts_packet.specs.Reading.{adaptation_at, body_at, countdown_at, field_at, header_of, length_prefixed_at, packet_at, parts_at, reference_at}
use Rattle.ts_packet.specs.Reading.{reference_of}
use Rattle.ts_packet.specs.Views.{AdaptationView, FieldView, NoFlags, WithFlags, PacketView}

-- The reference of an adaptation field
unfoldable pub pcr_in : Option AdaptationView → Option Reference
pcr_in None = None
pcr_in (Some NoFlags) = None
pcr_in (Some (WithFlags parts)) = parts.pcr

abbrev pcr_of : Result FieldView PacketError → Option Reference
pcr_of (Ok parts) = parts.pcr
pcr_of (Err error) = None

abbrev first_of : Result (Option Reference × List ℕ) PacketError → Option Reference
first_of (Ok read) = read.0
first_of (Err error) = None

-- A reference takes six bytes.
reference_long : (b : Bool) (bytes : List ℕ) (read : Option Reference × List ℕ) → reference_at b bytes ≡ Ok read → is_some read.0 ≡ true → 6 ≤ length bytes
unfolding reference_at
reference_long false bytes read e some =
    let same : None ≡ read.0 = ap (λ (r : Result (Option Reference × List ℕ) PacketError). first_of r) e in
    let no : false ≡ true = ap (λ (o : Option Reference). is_some o) same ∙ some in
    absurd (let none : ⊥ = cc in none)
reference_long true bytes read e some = by (nat_lt (length bytes) 6) refl e
  where
    by : (b : Bool) → nat_lt (length bytes) 6 ≡ b → (if b then Err PartTooLong else Ok (Some (reference_of (take 6 bytes)), drop 6 bytes)) ≡ Ok read →
        6 ≤ length bytes
    by true h e = absurd (let no : ⊥ = cc in no)
    by false h e = grind (arith, nat_tests)

-- The parts of an adaptation field with a reference take at least six bytes.
parts_long : (flags : ℕ) (bytes : List ℕ) (parts : FieldView) → parts_at flags bytes ≡ Ok parts → is_some parts.pcr ≡ true → 6 ≤ length bytes
unfolding parts_at
parts_long flags bytes parts e some =
    let pcr = bind_ok (reference_at (flag flags 16) bytes) _ parts e in
    let opcr = bind_ok (reference_at (flag flags 8) pcr.0.1) _ parts pcr.2 in
    let splice = bind_ok (countdown_at (flag flags 4) opcr.0.1) _ parts opcr.2 in
    let private = bind_ok (length_prefixed_at (flag flags 2) splice.0.1) _ parts splice.2 in
    let extension = bind_ok (length_prefixed_at (flag flags 1) private.0.1) _ parts private.2 in
    let same = ap (λ (r : Result FieldView PacketError). pcr_of r) extension.2 in
    reference_long (flag flags 16) bytes pcr.0 pcr.1 (ap (λ (o : Option Reference). is_some o) same ∙ some)

-- An adaptation field with a reference takes at least seven bytes.
field_long : (bytes : List ℕ) (adaptation : AdaptationView) → adaptation_at bytes ≡ Ok adaptation → is_some (pcr_in (Some adaptation)) ≡ true → 7 ≤ length bytes
unfolding adaptation_at pcr_in
field_long [] NoFlags e some = absurd (let no : ⊥ = cc in no)
field_long [] (WithFlags parts) e some = absurd (let no : ⊥ = cc in no)
field_long (flags ∷ bytes) NoFlags e some = absurd (let no : ⊥ = cc in no)
field_long (flags ∷ bytes) (WithFlags parts) e some =
    let read = bind_ok (parts_at flags bytes) _ (WithFlags parts) e in
    let same : read.0 ≡ parts = let e1 = read.2 in cc in
    let long = parts_long flags bytes read.0 read.1 (ap (λ (p : FieldView). is_some p.pcr) same ∙ some) in
    omega (arith, long)

field_rest : (most : ℕ) (bytes : List ℕ) (field : AdaptationView × List ℕ) → field_at most bytes ≡ Ok field → is_some (pcr_in (Some field.0)) ≡ true →
    8 + length field.1 ≤ length bytes
unfolding field_at
field_rest most [] field e some = absurd (let no : ⊥ = cc in no)
field_rest most (n ∷ bytes) field e some =
    let within = guard_ok (nat_lt most n) FieldTooLong _ field e in
    let read = bind_ok (adaptation_at (take n bytes)) _ field within.1 in
    let same : (read.0, drop n bytes) ≡ field = let e1 = read.2 in cc in
    let first : read.0 ≡ field.0 = ap (λ (f : AdaptationView × List ℕ). f.0) same in
    let rest : drop n bytes ≡ field.1 = ap (λ (f : AdaptationView × List ℕ). f.1) same in
    let long = field_long (take n bytes) read.0 read.1 (ap (λ (a : AdaptationView). is_some (pcr_in (Some a))) first ∙ some) in
    omega (arith, long, length-take n bytes, length-drop n bytes, ap (λ (l : List ℕ). length l) rest)

-- The payload of a packet with a reference is at least eight bytes shorter than the bytes after the header.
body_rest : (header : Header) (control : ℕ) (bytes : List ℕ) (packet : PacketView) → body_at header control bytes ≡ Ok packet →
    is_some (pcr_in packet.adaptation) ≡ true →
    8 ≤ length bytes → 8 + length (unwrap_or packet.payload []) ≤ length bytes
unfolding body_at pcr_in
body_rest header control bytes packet e some long =
    let zero = guard_ok (control == 0) ReservedControl _ packet e in
    by (control == 1) (control == 2) zero.1
  where
    by : (a b : Bool) → (if a then Ok (record { header = header; adaptation = None; payload = Some bytes })
        else (if b then (field_at 183 bytes >>= (λ field. Ok (record { header = header; adaptation = Some field.0; payload = None })))
        else (field_at 182 bytes >>= (λ field. Ok (record { header = header; adaptation = Some field.0; payload = Some field.1 }))))) ≡ Ok packet →
        8 + length (unwrap_or packet.payload []) ≤ length bytes
    by true b e =
        let same : record { header = header; adaptation = None; payload = Some bytes } ≡ packet = cc in
        let none : is_some (pcr_in packet.adaptation) ≡ false = ap (λ (p : PacketView). is_some (pcr_in p.adaptation)) (sym same) in
        absurd (let no : ⊥ = cc in no)
    by false true e =
        let read = bind_ok (field_at 183 bytes) _ packet e in
        let e1 = read.2 in
        let same : record { header = header; adaptation = Some read.0.0; payload = None } ≡ packet = cc in
        let size : 0 ≡ length (unwrap_or packet.payload []) = ap (λ (p : PacketView). length (unwrap_or p.payload [])) same in
        omega (arith, size, long)
    by false false e =
        let read = bind_ok (field_at 182 bytes) _ packet e in
        let e1 = read.2 in
        let same : record { header = header; adaptation = Some read.0.0; payload = Some read.0.1 } ≡ packet = cc in
        let size : length read.0.1 ≡ length (unwrap_or packet.payload []) = ap (λ (p : PacketView). length (unwrap_or p.payload [])) same in
        let is : is_some (pcr_in (Some read.0.0)) ≡ true = ap (λ (p : PacketView). is_some (pcr_in p.adaptation)) same ∙ some in
        omega (arith, size, field_rest 182 bytes read.0 read.1 is)

pub packet_rest : (bytes : List ℕ) (packet : PacketView) → length bytes ≡ 188 → packet_at bytes ≡ Ok packet → is_some (pcr_in packet.adaptation) ≡ true →
    length (unwrap_or packet.payload []) ≤ 176
unfolding packet_at
packet_rest bytes packet whole e some = by (slice_index bytes 0 == 0x47) e
  where
    by : (b : Bool) → (if b then body_at (header_of bytes) (slice_index bytes 3 / 16 % 4) (drop 4 bytes) else Err Sync) ≡ Ok packet →
        length (unwrap_or packet.payload []) ≤ 176
    by true e =
        let size = length-drop 4 bytes in
        omega (arith, size, whole, body_rest (header_of bytes) (slice_index bytes 3 / 16 % 4) (drop 4 bytes) packet e some (omega (arith, size, whole)))
    by false e = absurd (let no : ⊥ = cc in no)

-- The payload of any packet of 188 bytes has at most 184 bytes.
field_left : (most : ℕ) (bytes : List ℕ) (field : AdaptationView × List ℕ) → field_at most bytes ≡ Ok field → length field.1 ≤ length bytes
unfolding field_at
field_left most [] field e = absurd (let no : ⊥ = cc in no)
field_left most (n ∷ bytes) field e =
    let within = guard_ok (nat_lt most n) FieldTooLong _ field e in
    let read = bind_ok (adaptation_at (take n bytes)) _ field within.1 in
    let same : (read.0, drop n bytes) ≡ field = let e1 = read.2 in cc in
    let rest : drop n bytes ≡ field.1 = ap (λ (f : AdaptationView × List ℕ). f.1) same in
    omega (arith, length-drop n bytes, ap (λ (l : List ℕ). length l) rest)

body_left : (header : Header) (control : ℕ) (bytes : List ℕ) (packet : PacketView) → body_at header control bytes ≡ Ok packet →
    length (unwrap_or packet.payload []) ≤ length bytes
unfolding body_at
body_left header control bytes packet e =
    let zero = guard_ok (control == 0) ReservedControl _ packet e in
    by (control == 1) (control == 2) zero.1
  where
    by : (a b : Bool) → (if a then Ok (record { header = header; adaptation = None; payload = Some bytes })
        else (if b then (field_at 183 bytes >>= (λ field. Ok (record { header = header; adaptation = Some field.0; payload = None })))
        else (field_at 182 bytes >>= (λ field. Ok (record { header = header; adaptation = Some field.0; payload = Some field.1 }))))) ≡ Ok packet →
        length (unwrap_or packet.payload []) ≤ length bytes
    by true b e =
        let same : record { header = header; adaptation = None; payload = Some bytes } ≡ packet = cc in
        let size : length bytes ≡ length (unwrap_or packet.payload []) = ap (λ (p : PacketView). length (unwrap_or p.payload [])) same in
        omega (arith, size)
    by false true e =
        let read = bind_ok (field_at 183 bytes) _ packet e in
        let e1 = read.2 in
        let same : record { header = header; adaptation = Some read.0.0; payload = None } ≡ packet = cc in
        let size : 0 ≡ length (unwrap_or packet.payload []) = ap (λ (p : PacketView). length (unwrap_or p.payload [])) same in
        omega (arith, size)
    by false false e =
        let read = bind_ok (field_at 182 bytes) _ packet e in
        let e1 = read.2 in
        let same : record { header = header; adaptation = Some read.0.0; payload = Some read.0.1 } ≡ packet = cc in
        let size : length read.0.1 ≡ length (unwrap_or packet.payload []) = ap (λ (p : PacketView). length (unwrap_or p.payload [])) same in
        omega (arith, size, field_left 182 bytes read.0 read.1)

pub packet_left : (bytes : List ℕ) (packet : PacketView) → length bytes ≡ 188 → packet_at bytes ≡ Ok packet →
    length (unwrap_or packet.payload []) ≤ 184
unfolding packet_at
packet_left bytes packet whole e = by (slice_index bytes 0 == 0x47) e
  where
    by : (b : Bool) → (if b then body_at (header_of bytes) (slice_index bytes 3 / 16 % 4) (drop 4 bytes) else Err Sync) ≡ Ok packet →
        length (unwrap_or packet.payload []) ≤ 184
    by true e = omega (arith, length-drop 4 bytes, whole, body_left (header_of bytes) (slice_index bytes 3 / 16 % 4) (drop 4 bytes) packet e)
    by false e = absurd (let no : ⊥ = cc in no)
