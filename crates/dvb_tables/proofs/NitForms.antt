-- The network information table: reading finds exactly the bytes' fields
use Rattle.std.proofs.Common.{◌≡◌, ℕ, ◌+◌, ◌*◌, ◌/◌, ◌%◌, ◌^◌, ◌<◌, ◌==◌, refl, sym, ap, ◌∙◌, subst, arith, List, [], ◌∷◌, ◌++◌, length, Option, None, Some, Ok}
use Rattle.std.proofs.Common.{append-nil, eqb-true}
use Rattle.std.specs.Prelude.{slice_index}
use Rattle.bit_fields.specs.Fields.{number, fields, IsBytes}
use Rattle.bit_fields.proofs.Bind.{bind_ok, ok_is}
use Rattle.bit_fields.proofs.ByteLists.{IsBytes-append_left, IsBytes-append_right}
use Rattle.psi_tables.specs.Views.{SectionView}
use Rattle.psi_tables.specs.Tables.{table_header_at}
use Rattle.psi_tables.specs.Loops.{EntryView, IsEntry, entry_bytes, entry_at, descriptors_length}
use Rattle.psi_tables.specs.declared.error.SectionError.TheVariants.{Body}
use Rattle.psi_tables.specs.declared.section.LongHeader.{LongHeader}
use Rattle.psi_tables.proofs.LoopParts.{entry_at-is, entry_at-read}
use Rattle.psi_tables.proofs.TableForms.{HasHeader, table_header_at-is, table_header_at-read}
use Rattle.dvb_tables.specs.TransportStreams.{TransportStreamView, transport_streams_at}
use Rattle.dvb_tables.specs.NetworkInformation.{NitView, IsLoopLength, IsNit, nit_at, nit_after, to_the_end}
use Rattle.dvb_tables.proofs.Heads.{two}
use Rattle.dvb_tables.proofs.Seams.{accepted}
use Rattle.dvb_tables.proofs.TransportStreamLoops.{transport_streams_is, transport_streams_only}

count_is : (a b : ℕ) → a < 256 → b < 256 → IsLoopLength (a ∷ b ∷ []) (a % 16 * 256 + b)
count_is a b ha hb = record { len = refl; reserved = a / 16; spelled = omega arith; four_bits = omega arith; twelve_bits = omega arith }

-- The head of an entry with two bytes is the length of the bytes after it.
count_found : (e : EntryView) → IsEntry 2 e → IsBytes e.head → IsLoopLength e.head (length e.descriptors)
unfolding descriptors_length
count_found e entry fits =
    let h = two e.head entry.head_length in
    let n : slice_index e.head 0 % 16 * 256 + slice_index e.head 1 ≡ length e.descriptors = sym (ap descriptors_length h) ∙ entry.named in
    subst (λ (head : List ℕ). IsLoopLength head (length e.descriptors)) (sym h)
    (subst (λ (n : ℕ). IsLoopLength (slice_index e.head 0 ∷ slice_index e.head 1 ∷ []) n) n
    (count_is (slice_index e.head 0) (slice_index e.head 1) (fits 0) (fits 1)))

count_said : (a b n reserved : ℕ) → a < 256 → b < 256 → reserved < 2 ^ 4 → n < 2 ^ 12 → number (a ∷ b ∷ []) ≡ fields ((4, reserved) ∷ (12, n) ∷ []) →
    a % 16 * 256 + b ≡ n
count_said a b n reserved ha hb hr hn e = omega arith

-- A length and the bytes that it counts are an entry.
pub count_entry : (head rest : List ℕ) → IsLoopLength head (length rest) → IsBytes head → IsEntry 2 (record { head = head; descriptors = rest })
unfolding descriptors_length
count_entry head rest h fits =
    let l = two head h.len in
    record {
      head_length = h.len;
      named = ap descriptors_length l ∙ count_said (slice_index head 0) (slice_index head 1) (length rest) h.reserved (fits 0) (fits 1) h.four_bits
          h.twelve_bits (ap number (sym l) ∙ h.spelled);
    }

-- An entry that reaches to the end of the bytes
record ToTheEnd (o : Option (EntryView × List ℕ)) (loop : List ℕ) : Type 0 where
  front : EntryView × List ℕ
  there : o ≡ Some front
  ends : front.1 ≡ []
  is : front.0.descriptors ≡ loop

empty : (xs : List ℕ) → length xs ≡ 0 → xs ≡ []
empty [] e = refl
empty (x ∷ xs) e = absurd (omega arith)

to_the_end_is : (o : Option (EntryView × List ℕ)) (loop : List ℕ) → to_the_end o ≡ Ok loop → ToTheEnd o loop
unfolding to_the_end
to_the_end_is None loop e = absurd cc
to_the_end_is (Some p) loop e =
    let a = accepted (length p.1 == 0) p.0.descriptors Body loop e in
    record { front = p; there = refl; ends = empty p.1 (eqb-true (length p.1) 0 a.0); is = a.1 }

-- The parts of the body after the section's header
record After (header : LongHeader) (o : Option (EntryView × List ℕ)) (t : NitView) : Type 0 where
  front : EntryView × List ℕ
  there : o ≡ Some front
  loop : List ℕ
  ends : to_the_end (entry_at 2 front.1) ≡ Ok loop
  streams : List TransportStreamView
  read : transport_streams_at loop ≡ Ok streams
  is : ◌≡◌ {A = NitView} (record { header = header; network_descriptors = front.0.descriptors; transport_streams = streams }) t

after_is : (header : LongHeader) (o : Option (EntryView × List ℕ)) (t : NitView) → nit_after header o ≡ Ok t → After header o t
unfolding nit_after
after_is header None t e = absurd cc
after_is header (Some p) t e =
    let q = bind_ok (to_the_end (entry_at 2 p.1)) _ t e in
    let r = bind_ok (transport_streams_at q.0) _ t q.2 in
    record { front = p; there = refl; loop = q.0; ends = q.1; streams = r.0; read = r.1; is = ok_is _ t r.2 }

-- A body of two entries, each with a head of two bytes
two_entries : (s : SectionView) (header : LongHeader) (e f : EntryView) (streams : List TransportStreamView) → IsBytes s.body → HasHeader 0x40 1021 s header
    → s.body ≡ (e.head ++ e.descriptors) ++ (f.head ++ f.descriptors) → IsEntry 2 e → IsEntry 2 f → transport_streams_at f.descriptors ≡ Ok streams
    → IsNit s (record { header = header; network_descriptors = e.descriptors; transport_streams = streams })
two_entries s header e f streams fits h is first second read =
    let all : IsBytes ((e.head ++ e.descriptors) ++ (f.head ++ f.descriptors)) = subst IsBytes is fits in
    let left : IsBytes (e.head ++ e.descriptors) = IsBytes-append_left (e.head ++ e.descriptors) (f.head ++ f.descriptors) all in
    let right : IsBytes (f.head ++ f.descriptors) = IsBytes-append_right (e.head ++ e.descriptors) (f.head ++ f.descriptors) all in
    record {
      table_id = h.table_id;
      long = h.long;
      section_length = h.section_length;
      descriptors_head = e.head;
      loop_head = f.head;
      loop = f.descriptors;
      is = is;
      network_descriptors_length = count_found e first (IsBytes-append_left e.head e.descriptors left);
      transport_stream_loop_length = count_found f second (IsBytes-append_left f.head f.descriptors right);
      transport_streams = transport_streams_is f.descriptors streams (IsBytes-append_right f.head f.descriptors right) read;
    }

-- A table that is read from the bytes is a network information table.
pub nit_is : (s : SectionView) (t : NitView) → IsBytes s.body → nit_at s ≡ Ok t → IsNit s t
unfolding nit_at entry_bytes
nit_is s t fits e =
    let q = bind_ok (table_header_at 0x40 1021 s) _ t e in
    let b = after_is q.0 (entry_at 2 s.body) t q.2 in
    let end = to_the_end_is (entry_at 2 b.front.1) b.loop b.ends in
    let first = entry_at-is 2 s.body b.front b.there in
    let second = entry_at-is 2 b.front.1 end.front end.there in
    let last : b.front.1 ≡ end.front.0.head ++ end.front.0.descriptors =
    second.is ∙ (ap (λ (r : List ℕ). (end.front.0.head ++ end.front.0.descriptors) ++ r) end.ends ∙ append-nil (end.front.0.head ++ end.front.0.descriptors)) in
    let is : s.body ≡ (b.front.0.head ++ b.front.0.descriptors) ++ (end.front.0.head ++ end.front.0.descriptors) =
    first.is ∙ ap (λ (r : List ℕ). (b.front.0.head ++ b.front.0.descriptors) ++ r) last in
    subst (λ (t : NitView). IsNit s t) b.is
    (two_entries s q.0 b.front.0 end.front.0 b.streams fits (table_header_at-is 0x40 1021 s q.0 q.1) is first.entry second.entry
    (ap transport_streams_at end.is ∙ b.read))

-- A body of two lengths, each followed by the bytes that it counts, is read.
pub body_read : (t : NitView) (body first second loop : List ℕ) → body ≡ (first ++ t.network_descriptors) ++ (second ++ loop)
    → IsEntry 2 (record { head = first; descriptors = t.network_descriptors }) → IsEntry 2 (record { head = second; descriptors = loop })
    → transport_streams_at loop ≡ Ok t.transport_streams → nit_after t.header (entry_at 2 body) ≡ Ok t
unfolding nit_after to_the_end entry_bytes
body_read t body first second loop is one two streams =
    let front : entry_at 2 ((first ++ t.network_descriptors) ++ (second ++ loop)) ≡ Some
    (record { head = first; descriptors = t.network_descriptors }, second ++ loop)
    = entry_at-read 2 (record { head = first; descriptors = t.network_descriptors }) (second ++ loop) one in
    let end : entry_at 2 (second ++ loop) ≡ Some (record { head = second; descriptors = loop }, [])
    = ap (λ (b : List ℕ). entry_at 2 b) (sym (append-nil (second ++ loop))) ∙ entry_at-read 2 (record { head = second; descriptors = loop }) [] two in
    rw (is, front, end, streams) refl

-- A network information table is read back.
pub nit_again : (s : SectionView) (t : NitView) → IsBytes s.body → IsNit s t → nit_at s ≡ Ok t
unfolding nit_at
nit_again s t fits h =
    let header = table_header_at-read 0x40 1021 s t.header (record { table_id = h.table_id; long = h.long; section_length = h.section_length }) in
    let all : IsBytes ((h.descriptors_head ++ t.network_descriptors) ++ (h.loop_head ++ h.loop)) = subst IsBytes h.is fits in
    let left : IsBytes (h.descriptors_head ++ t.network_descriptors) =
    IsBytes-append_left (h.descriptors_head ++ t.network_descriptors) (h.loop_head ++ h.loop) all in
    let right : IsBytes (h.loop_head ++ h.loop) = IsBytes-append_right (h.descriptors_head ++ t.network_descriptors) (h.loop_head ++ h.loop) all in
    let one = count_entry h.descriptors_head t.network_descriptors h.network_descriptors_length
    (IsBytes-append_left h.descriptors_head t.network_descriptors left) in
    let two = count_entry h.loop_head h.loop h.transport_stream_loop_length (IsBytes-append_left h.loop_head h.loop right) in
    let streams = transport_streams_only h.loop t.transport_streams (IsBytes-append_right h.loop_head h.loop right) h.transport_streams in
    rw header (body_read t s.body h.descriptors_head h.loop_head h.loop h.is one two streams)
