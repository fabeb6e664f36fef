-- No packet of 188 bytes has more than 184 bytes of payload.
use Rattle.std.proofs.Common.{◌≡◌, ℕ, ◌≤◌, Bool, true, false, List, [], ◌∷◌, length, take, drop, Some, None, Result, Ok, Err}
use Rattle.std.proofs.Common.{if◌then◌else◌, ap, arith}
use Rattle.std.specs.Prelude.{◌==◌, ◌/◌, ◌%◌, nat_lt, slice_index, unwrap_or}
use Rattle.std.proofs.lemmas.List.{length-drop}
use Rattle.bit_fields.specs.Reading.{◌>>=◌}
use Rattle.bit_fields.proofs.Bind.{bind_ok, guard_ok}
use Rattle.ts_packet.specs.declared.header.Header.{Header}
use Rattle.ts_packet.specs.declared.packet.PacketError.{PacketError}
use Rattle.ts_packet.specs.declared.packet.PacketError.TheVariants.{Sync, ReservedControl, FieldTooLong}
use Rattle.ts_packet.specs.Reading.{adaptation_at, body_at, field_at, header_of, packet_at}
use Rattle.ts_packet.specs.Views.{AdaptationView, PacketView}
use Rattle.laws_view.specs.StreamPackets.{sound_packet}

-- Reading an adaptation field leaves no more bytes than before.
field_shorter : (most : ℕ) (bytes : List ℕ) (field : AdaptationView × List ℕ) → field_at most bytes ≡ Ok field → length field.1 ≤ length bytes
unfolding field_at
field_shorter most [] field e = absurd (let no : ⊥ = cc in no)
field_shorter most (n ∷ bytes) field e =
    let within = guard_ok (nat_lt most n) FieldTooLong _ field e in
    let read = bind_ok (adaptation_at (take n bytes)) _ field within.1 in
    let same : (read.0, drop n bytes) ≡ field = let e1 = read.2 in cc in
    let rest : drop n bytes ≡ field.1 = ap (λ (f : AdaptationView × List ℕ). f.1) same in
    omega (arith, length-drop n bytes, ap (λ (l : List ℕ). length l) rest)

body_most : (header : Header) (control : ℕ) (bytes : List ℕ) (packet : PacketView) → body_at header control bytes ≡ Ok packet →
    length (unwrap_or packet.payload []) ≤ length bytes
unfolding body_at
body_most header control bytes packet e =
    let zero = guard_ok (control == 0) ReservedControl _ packet e in
    by (control == 1) (control == 2) zero.1
  where
    by : (a b : Bool) → (if a then Ok (record { header = header; adaptation = None; payload = Some bytes })
        else (if b then (field_at 183 bytes >>= (λ field. Ok (record { header = header; adaptation = Some field.0; payload = None })))
        else (field_at 182 bytes >>= (λ field. Ok (record { header = header; adaptation = Some field.0; payload = Some field.1 }))))) ≡ Ok packet →
        length (unwrap_or packet.payload []) ≤ length bytes
    by true b e =
        let same : record { header = header; adaptation = None; payload = Some bytes } ≡ packet = cc in
        let size : length bytes ≡ length (unwrap_or packet.payload []) = ap (λ (p : PacketView). length (unwrap_or p.payload [])) same in
        omega (arith, size)
    by false true e =
        let read = bind_ok (field_at 183 bytes) _ packet e in
        let e1 = read.2 in
        let same : record { header = header; adaptation = Some read.0.0; payload = None } ≡ packet = cc in
        let size : 0 ≡ length (unwrap_or packet.payload []) = ap (λ (p : PacketView). length (unwrap_or p.payload [])) same in
        omega (arith, size)
    by false false e =
        let read = bind_ok (field_at 182 bytes) _ packet e in
        let e1 = read.2 in
        let same : record { header = header; adaptation = Some read.0.0; payload = Some read.0.1 } ≡ packet = cc in
        let size : length read.0.1 ≡ length (unwrap_or packet.payload []) = ap (λ (p : PacketView). length (unwrap_or p.payload [])) same in
        omega (arith, size, field_shorter 182 bytes read.0 read.1)

packet_most : (bytes : List ℕ) (packet : PacketView) → length bytes ≡ 188 → packet_at bytes ≡ Ok packet → length (unwrap_or packet.payload []) ≤ 184
unfolding packet_at
packet_most bytes packet whole e = by (slice_index bytes 0 == 0x47) e
  where
    by : (b : Bool) → (if b then body_at (header_of bytes) (slice_index bytes 3 / 16 % 4) (drop 4 bytes) else Err Sync) ≡ Ok packet →
        length (unwrap_or packet.payload []) ≤ 184
    by true e = omega (arith, length-drop 4 bytes, whole, body_most (header_of bytes) (slice_index bytes 3 / 16 % 4) (drop 4 bytes) packet e)
    by false e = absurd (let no : ⊥ = cc in no)

read_so : (r : Result PacketView PacketError) (packet : PacketView) → sound_packet r ≡ Some packet → r ≡ Ok packet
unfolding sound_packet
read_so (Err error) packet e = absurd (let no : ⊥ = cc in no)
read_so (Ok p) packet e = ap (λ (q : PacketView). Ok q) (by p.header.transport_error_indicator e)
  where
    by : (w : Bool) → (if w then None else Some p) ≡ Some packet → p ≡ packet
    by true e = absurd (let no : ⊥ = cc in no)
    by false e = let same : p ≡ packet = cc in same

pub sound_most : (bytes : List ℕ) (packet : PacketView) → length bytes ≡ 188 → sound_packet (packet_at bytes) ≡ Some packet →
    length (unwrap_or packet.payload []) ≤ 184
sound_most bytes packet whole sound = packet_most bytes packet whole (read_so (packet_at bytes) packet sound)
