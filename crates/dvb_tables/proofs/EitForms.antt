-- The event information table: reading finds exactly the bytes' fields
use Rattle.std.proofs.Common.{◌≡◌, ℕ, ◌+◌, ◌*◌, ◌^◌, ◌<◌, ◌≤◌, nat_lt, false, refl, sym, ap, ◌∙◌, subst, arith, List, [], ◌∷◌, ◌++◌, length, take, drop, Ok}
use Rattle.std.proofs.Common.{length-append}
use Rattle.std.proofs.lemmas.Bool.{ltb-false, le-ltb}
use Rattle.std.proofs.lemmas.List.{length-take, take-append-drop}
use Rattle.std.specs.Prelude.{slice_index}
use Rattle.bit_fields.specs.Fields.{number, fields, IsBytes}
use Rattle.bit_fields.proofs.Bind.{bind_ok, guard_ok, ok_is}
use Rattle.bit_fields.proofs.ByteLists.{IsBytes-append_left, IsBytes-append_right, IsBytes-drop}
use Rattle.psi_tables.specs.Views.{SectionView}
use Rattle.psi_tables.specs.Tables.{table_header_at}
use Rattle.psi_tables.specs.declared.section.LongHeader.{LongHeader}
use Rattle.psi_tables.proofs.TableForms.{HasHeader, table_header_at-is, table_header_at-read}
use Rattle.dvb_tables.specs.Sequences.{IsSequence}
use Rattle.dvb_tables.specs.EventEntries.{EventView, IsEvent, events_at}
use Rattle.dvb_tables.specs.EventInformation.{EitView, IsEit, eit_at, eit_body_at, eit_after}
use Rattle.dvb_tables.proofs.Heads.{six}
use Rattle.dvb_tables.proofs.Seams.{taken, dropped}
use Rattle.dvb_tables.proofs.EventLoops.{events_is, events_only}

-- The fields of a body that begins with these six bytes
parts_found : (s : SectionView) (header : LongHeader) (a b c d f g : ℕ) (loop : List ℕ) (es : List EventView) → HasHeader 0x4E 4093 s header
    → s.body ≡ (a ∷ b ∷ c ∷ d ∷ f ∷ g ∷ []) ++ loop → a < 256 → b < 256 → c < 256 → d < 256 → f < 256 → g < 256 → IsSequence IsEvent loop es
    → IsEit s (record {
      header = header;
      transport_stream_id = a * 256 + b;
      original_network_id = c * 256 + d;
      segment_last_section_number = f;
      last_table_id =
          g;
      events = es;
    })
parts_found s header a b c d f g loop es h is ha hb hc hd hf hg events = record {
  table_id = h.table_id;
  long = h.long;
  section_length = h.section_length;
  front = a ∷ b ∷ c ∷ d ∷ f ∷ g ∷ [];
  loop = loop;
  is = is;
  front_length = refl;
  spelled = omega arith;
  transport_stream_id = omega arith;
  original_network_id = omega arith;
  segment_last_section_number = omega arith;
  last_table_id = omega arith;
  events = events;
}

front_found : (s : SectionView) (header : LongHeader) (front loop : List ℕ) (es : List EventView) → IsBytes s.body → HasHeader 0x4E 4093 s header
    → s.body ≡ front ++ loop → length front ≡ 6 → IsSequence IsEvent loop es
    → IsEit s (record {
      header = header;
      transport_stream_id = slice_index front 0 * 256 + slice_index front 1;
      original_network_id = slice_index front 2 * 256 + slice_index front 3;
      segment_last_section_number = slice_index front 4;
      last_table_id = slice_index front 5;
      events = es;
    })
front_found s header front loop es fits h is len events =
    let bytes : IsBytes front = IsBytes-append_left front loop (subst IsBytes is fits) in
    parts_found s header (slice_index front 0) (slice_index front 1) (slice_index front 2) (slice_index front 3) (slice_index front 4) (slice_index front 5)
    loop es h
    (is ∙ ap (λ (f : List ℕ). f ++ loop) (six front len)) (bytes 0) (bytes 1) (bytes 2) (bytes 3) (bytes 4) (bytes 5) events

-- A table that is read from the bytes is an event information table.
pub eit_is : (s : SectionView) (t : EitView) → IsBytes s.body → eit_at s ≡ Ok t → IsEit s t
unfolding eit_at eit_body_at eit_after
eit_is s t fits e =
    let q = bind_ok (table_header_at 0x4E 4093 s) _ t e in
    let g = guard_ok (nat_lt (length s.body) 6) _ _ t q.2 in
    let room : 6 ≤ length s.body = ltb-false (length s.body) 6 g.0 in
    let r = bind_ok (events_at (drop 6 s.body)) _ t g.1 in
    subst (λ (t : EitView). IsEit s t) (ok_is _ t r.2)
    (front_found s q.0 (take 6 s.body) (drop 6 s.body) r.0 fits (table_header_at-is 0x4E 4093 s q.0 q.1) (sym (take-append-drop 6 s.body))
    (omega (arith, length-take 6 s.body)) (events_is (drop 6 s.body) r.0 (IsBytes-drop 6 s.body fits) r.1))

-- The numbers that the six bytes of a front spell
pub record Numbers (front : List ℕ) (t : EitView) : Type 0 where
  pub transport_stream_id : slice_index front 0 * 256 + slice_index front 1 ≡ t.transport_stream_id
  pub original_network_id : slice_index front 2 * 256 + slice_index front 3 ≡ t.original_network_id
  pub segment_last_section_number : slice_index front 4 ≡ t.segment_last_section_number
  pub last_table_id : slice_index front 5 ≡ t.last_table_id

numbers_read : (a b c d f g : ℕ) (t : EitView) → a < 256 → b < 256 → c < 256 → d < 256 → f < 256 → g < 256
    → t.transport_stream_id < 2 ^ 16 → t.original_network_id < 2 ^ 16 → t.segment_last_section_number < 2 ^ 8 → t.last_table_id < 2 ^ 8
    → number (a ∷ b ∷ c ∷ d ∷ f ∷ g ∷ []) ≡ fields
    ((16, t.transport_stream_id) ∷ (16, t.original_network_id) ∷ (8, t.segment_last_section_number) ∷ (8, t.last_table_id) ∷ [])
    → Numbers (a ∷ b ∷ c ∷ d ∷ f ∷ g ∷ []) t
numbers_read a b c d f g t ha hb hc hd hf hg h1 h2 h3 h4 e = record {
  transport_stream_id = omega arith;
  original_network_id = omega arith;
  segment_last_section_number = omega arith;
  last_table_id = omega arith;
}

numbers_of : (s : SectionView) (t : EitView) → IsBytes s.body → (h : IsEit s t) → Numbers h.front t
numbers_of s t fits h =
    let bytes : IsBytes h.front = IsBytes-append_left h.front h.loop (subst IsBytes h.is fits) in
    subst (λ (f : List ℕ). Numbers f t) (sym (six h.front h.front_length))
    (numbers_read (slice_index h.front 0) (slice_index h.front 1) (slice_index h.front 2) (slice_index h.front 3) (slice_index h.front 4)
    (slice_index h.front 5) t
    (bytes 0) (bytes 1) (bytes 2) (bytes 3) (bytes 4) (bytes 5) h.transport_stream_id h.original_network_id h.segment_last_section_number h.last_table_id
    (ap number (sym (six h.front h.front_length)) ∙ h.spelled))

after_read : (t : EitView) (front loop : List ℕ) → Numbers front t → events_at loop ≡ Ok t.events → eit_after t.header front loop ≡ Ok t
unfolding eit_after
after_read t front loop n events = rw (events, n.transport_stream_id, n.original_network_id, n.segment_last_section_number, n.last_table_id) refl

pub body_read : (t : EitView) (body front loop : List ℕ) → body ≡ front ++ loop → length front ≡ 6 → Numbers front t → events_at loop ≡ Ok t.events
    → eit_body_at t.header body ≡ Ok t
unfolding eit_body_at
body_read t body front loop is len n events =
    let room : nat_lt (length (front ++ loop)) 6 ≡ false = le-ltb (length (front ++ loop)) 6 (omega (arith, length-append front loop)) in
    let first : take 6 (front ++ loop) ≡ front = taken 6 front loop len in
    let second : drop 6 (front ++ loop) ≡ loop = dropped 6 front loop len in
    rw (is, room, first, second) (after_read t front loop n events)

-- An event information table is read back.
pub eit_again : (s : SectionView) (t : EitView) → IsBytes s.body → IsEit s t → eit_at s ≡ Ok t
unfolding eit_at
eit_again s t fits h =
    let header = table_header_at-read 0x4E 4093 s t.header (record { table_id = h.table_id; long = h.long; section_length = h.section_length }) in
    let all : IsBytes (h.front ++ h.loop) = subst IsBytes h.is fits in
    let events = events_only h.loop t.events (IsBytes-append_right h.front h.loop all) h.events in
    rw header (body_read t s.body h.front h.loop h.is h.front_length (numbers_of s t fits h) events)
