-- The service description table: reading finds exactly the bytes' fields
use Rattle.std.proofs.Common.{◌≡◌, ℕ, ◌+◌, ◌*◌, ◌^◌, ◌<◌, ◌≤◌, nat_lt, false, refl, sym, ap, ◌∙◌, subst, arith, List, [], ◌∷◌, ◌++◌, length, take, drop, Ok}
use Rattle.std.proofs.Common.{length-append}
use Rattle.std.proofs.lemmas.Bool.{ltb-false, le-ltb}
use Rattle.std.proofs.lemmas.List.{length-take, take-append-drop}
use Rattle.std.specs.Prelude.{slice_index}
use Rattle.bit_fields.specs.Fields.{number, fields, IsBytes}
use Rattle.bit_fields.proofs.Bind.{bind_ok, guard_ok, ok_is}
use Rattle.bit_fields.proofs.ByteLists.{IsBytes-append_left, IsBytes-append_right, IsBytes-drop}
use Rattle.psi_tables.specs.Views.{SectionView}
use Rattle.psi_tables.specs.Tables.{table_header_at}
use Rattle.psi_tables.specs.declared.section.LongHeader.{LongHeader}
use Rattle.psi_tables.proofs.TableForms.{HasHeader, table_header_at-is, table_header_at-read}
use Rattle.dvb_tables.specs.Sequences.{IsSequence}
use Rattle.dvb_tables.specs.Services.{ServiceView, IsService, services_at}
use Rattle.dvb_tables.specs.ServiceDescription.{SdtView, IsSdt, sdt_at, sdt_body_at, sdt_after}
use Rattle.dvb_tables.proofs.Heads.{three}
use Rattle.dvb_tables.proofs.Seams.{taken, dropped}
use Rattle.dvb_tables.proofs.ServiceLoops.{services_is, services_only}

-- The fields of a body that begins with these three bytes
parts_found : (s : SectionView) (header : LongHeader) (a b c : ℕ) (loop : List ℕ) (ss : List ServiceView) → HasHeader 0x42 1021 s header
    → s.body ≡ (a ∷ b ∷ c ∷ []) ++ loop → a < 256 → b < 256 → c < 256 → IsSequence IsService loop ss
    → IsSdt s (record { header = header; original_network_id = a * 256 + b; services = ss })
parts_found s header a b c loop ss h is ha hb hc services = record {
  table_id = h.table_id;
  long = h.long;
  section_length = h.section_length;
  front = a ∷ b ∷ c ∷ [];
  loop = loop;
  is = is;
  reserved = c;
  front_length = refl;
  spelled = omega arith;
  original_network_id = omega arith;
  eight_bits = omega arith;
  services = services;
}

front_found : (s : SectionView) (header : LongHeader) (front loop : List ℕ) (ss : List ServiceView) → IsBytes s.body → HasHeader 0x42 1021 s header
    → s.body ≡ front ++ loop → length front ≡ 3 → IsSequence IsService loop ss
    → IsSdt s (record { header = header; original_network_id = slice_index front 0 * 256 + slice_index front 1; services = ss })
front_found s header front loop ss fits h is len services =
    let bytes : IsBytes front = IsBytes-append_left front loop (subst IsBytes is fits) in
    parts_found s header (slice_index front 0) (slice_index front 1) (slice_index front 2) loop ss h (is ∙ ap (λ (f : List ℕ). f ++ loop) (three front len))
    (bytes 0) (bytes 1) (bytes 2) services

-- A table that is read from the bytes is a service description table.
pub sdt_is : (s : SectionView) (t : SdtView) → IsBytes s.body → sdt_at s ≡ Ok t → IsSdt s t
unfolding sdt_at sdt_body_at sdt_after
sdt_is s t fits e =
    let q = bind_ok (table_header_at 0x42 1021 s) _ t e in
    let g = guard_ok (nat_lt (length s.body) 3) _ _ t q.2 in
    let room : 3 ≤ length s.body = ltb-false (length s.body) 3 g.0 in
    let r = bind_ok (services_at (drop 3 s.body)) _ t g.1 in
    subst (λ (t : SdtView). IsSdt s t) (ok_is _ t r.2)
    (front_found s q.0 (take 3 s.body) (drop 3 s.body) r.0 fits (table_header_at-is 0x42 1021 s q.0 q.1) (sym (take-append-drop 3 s.body))
    (omega (arith, length-take 3 s.body)) (services_is (drop 3 s.body) r.0 (IsBytes-drop 3 s.body fits) r.1))

number_read : (front : List ℕ) (n reserved : ℕ) → length front ≡ 3 → IsBytes front → n < 2 ^ 16 → reserved < 2 ^ 8
    → number front ≡ fields ((16, n) ∷ (8, reserved) ∷ []) → slice_index front 0 * 256 + slice_index front 1 ≡ n
number_read front n reserved len bytes hn hr spelled =
    let e : number (slice_index front 0 ∷ slice_index front 1 ∷ slice_index front 2 ∷ []) ≡ fields ((16, n) ∷ (8, reserved) ∷ []) =
    ap number (sym (three front len)) ∙ spelled in
    omega (arith, e, bytes 0, bytes 1, bytes 2)

after_read : (t : SdtView) (front loop : List ℕ) → slice_index front 0 * 256 + slice_index front 1 ≡ t.original_network_id → services_at loop ≡ Ok t.services
    → sdt_after t.header front loop ≡ Ok t
unfolding sdt_after
after_read t front loop id services = rw (services, id) refl

pub body_read : (t : SdtView) (body front loop : List ℕ) → body ≡ front ++ loop → length front ≡ 3
    → slice_index front 0 * 256 + slice_index front 1 ≡ t.original_network_id → services_at loop ≡ Ok t.services → sdt_body_at t.header body ≡ Ok t
unfolding sdt_body_at
body_read t body front loop is len id services =
    let room : nat_lt (length (front ++ loop)) 3 ≡ false = le-ltb (length (front ++ loop)) 3 (omega (arith, length-append front loop)) in
    let first : take 3 (front ++ loop) ≡ front = taken 3 front loop len in
    let second : drop 3 (front ++ loop) ≡ loop = dropped 3 front loop len in
    rw (is, room, first, second) (after_read t front loop id services)

-- A service description table is read back.
pub sdt_again : (s : SectionView) (t : SdtView) → IsBytes s.body → IsSdt s t → sdt_at s ≡ Ok t
unfolding sdt_at
sdt_again s t fits h =
    let header = table_header_at-read 0x42 1021 s t.header (record { table_id = h.table_id; long = h.long; section_length = h.section_length }) in
    let all : IsBytes (h.front ++ h.loop) = subst IsBytes h.is fits in
    let id = number_read h.front t.original_network_id h.reserved h.front_length (IsBytes-append_left h.front h.loop all) h.original_network_id h.eight_bits
    h.spelled in
    let services = services_only h.loop t.services (IsBytes-append_right h.front h.loop all) h.services in
    rw header (body_read t s.body h.front h.loop h.is h.front_length id services)
