-- The fields of a transport stream: from the bytes of an entry, and back
use Rattle.std.proofs.Common.{◌≡◌, ℕ, ◌+◌, ◌*◌, ◌/◌, ◌%◌, ◌^◌, ◌<◌, refl, List, [], ◌∷◌, ◌++◌, length, sym, ap, ◌∙◌, subst, arith, length-append}
use Rattle.std.specs.Prelude.{slice_index}
use Rattle.bit_fields.specs.Fields.{number, fields, IsBytes}
use Rattle.bit_fields.proofs.ByteLists.{IsBytes-append_left}
use Rattle.psi_tables.specs.Loops.{EntryView, IsEntry, entry_bytes, descriptors_length}
use Rattle.dvb_tables.specs.TransportStreams.{TransportStreamView, IsTransportStream, transport_stream_of, transport_stream_front, transport_stream_bytes}
use Rattle.dvb_tables.proofs.Heads.{six}
use Rattle.dvb_tables.proofs.EntrySequences.{Says}

here : (a b c d f g : ℕ) (descriptors : List ℕ) → a < 256 → b < 256 → c < 256 → d < 256 → f < 256 → g < 256 → f % 16 * 256 + g ≡ length descriptors
    → IsTransportStream ((a ∷ b ∷ c ∷ d ∷ f ∷ g ∷ []) ++ descriptors)
    (transport_stream_of (record { head = a ∷ b ∷ c ∷ d ∷ f ∷ g ∷ []; descriptors = descriptors }))
unfolding transport_stream_of
here a b c d f g descriptors ha hb hc hd hf hg n = record {
  head = a ∷ b ∷ c ∷ d ∷ f ∷ g ∷ [];
  is = refl;
  len = refl;
  reserved = f / 16;
  spelled = omega (arith, n);
  transport_stream_id = omega arith;
  original_network_id = omega arith;
  four_bits = omega arith;
  transport_descriptors_length = omega (arith, n);
}

-- An entry encodes a transport stream.
pub transport_stream_found : (e : EntryView) → IsEntry 6 e → IsBytes (entry_bytes e) → IsTransportStream (entry_bytes e) (transport_stream_of e)
unfolding entry_bytes descriptors_length
transport_stream_found e entry fits =
    let h = six e.head entry.head_length in
    let head : IsBytes e.head = IsBytes-append_left e.head e.descriptors fits in
    let n : descriptors_length
    (slice_index e.head 0 ∷ slice_index e.head 1 ∷ slice_index e.head 2 ∷ slice_index e.head 3 ∷ slice_index e.head 4 ∷ slice_index e.head 5 ∷ []) ≡ length
    e.descriptors
    = sym (ap descriptors_length h) ∙ entry.named in
    subst (λ (h : List ℕ). IsTransportStream (h ++ e.descriptors) (transport_stream_of (record { head = h; descriptors = e.descriptors }))) (sym h)
    (here (slice_index e.head 0) (slice_index e.head 1) (slice_index e.head 2) (slice_index e.head 3) (slice_index e.head 4) (slice_index e.head 5)
    e.descriptors
    (head 0) (head 1) (head 2) (head 3) (head 4) (head 5) n)

-- The numbers that six bytes of a transport stream spell
pub record Numbers (a b c d f g : ℕ) (t : TransportStreamView) : Type 0 where
  pub id : a * 256 + b ≡ t.transport_stream_id
  pub network : c * 256 + d ≡ t.original_network_id
  pub count : f % 16 * 256 + g ≡ length t.descriptors

pub numbers : (a b c d f g reserved : ℕ) (t : TransportStreamView) → a < 256 → b < 256 → c < 256 → d < 256 → f < 256 → g < 256
    → t.transport_stream_id < 2 ^ 16 → t.original_network_id < 2 ^ 16 → reserved < 2 ^ 4 → length t.descriptors < 2 ^ 12
    → number (a ∷ b ∷ c ∷ d ∷ f ∷ g ∷ []) ≡ fields ((16, t.transport_stream_id) ∷ (16, t.original_network_id) ∷ (4, reserved) ∷ (12, length t.descriptors) ∷ [])
    → Numbers a b c d f g t
numbers a b c d f g reserved t ha hb hc hd hf hg hi ho hr hn e = record { id = omega arith; network = omega arith; count = omega arith }

pub said : (a b c d f g : ℕ) (t : TransportStreamView) → Numbers a b c d f g t
    → transport_stream_of (record { head = a ∷ b ∷ c ∷ d ∷ f ∷ g ∷ []; descriptors = t.descriptors }) ≡ t
unfolding transport_stream_of
said a b c d f g t n =
    let i : a * 256 + b ≡ t.transport_stream_id = n.id in
    let o : c * 256 + d ≡ t.original_network_id = n.network in
    let whole : transport_stream_of (record { head = a ∷ b ∷ c ∷ d ∷ f ∷ g ∷ []; descriptors = t.descriptors })
    ≡ record { transport_stream_id = t.transport_stream_id; original_network_id = t.original_network_id; descriptors = t.descriptors } = cc in
    whole

-- The bytes of a transport stream are an entry that encodes it.
pub transport_stream_only : (bytes : List ℕ) (t : TransportStreamView) → IsTransportStream bytes t → IsBytes bytes → Says 6 transport_stream_of bytes t
unfolding entry_bytes descriptors_length
transport_stream_only bytes t h fits =
    let l = six h.head h.len in
    let head : IsBytes h.head = IsBytes-append_left h.head t.descriptors (subst IsBytes h.is fits) in
    let n = numbers (slice_index h.head 0) (slice_index h.head 1) (slice_index h.head 2) (slice_index h.head 3) (slice_index h.head 4) (slice_index h.head 5)
    h.reserved t
    (head 0) (head 1) (head 2) (head 3) (head 4) (head 5) h.transport_stream_id h.original_network_id h.four_bits h.transport_descriptors_length
    (ap number (sym l) ∙ h.spelled) in
    record {
      said = record { head = h.head; descriptors = t.descriptors };
      is = h.is;
      entry = record { head_length = h.len; named = ap descriptors_length l ∙ n.count };
      value = ap (λ (head : List ℕ). transport_stream_of (record { head = head; descriptors = t.descriptors })) l
          ∙ said (slice_index h.head 0) (slice_index h.head 1) (slice_index h.head 2) (slice_index h.head 3) (slice_index h.head 4) (slice_index h.head 5) t n;
    }

-- A transport stream is written with six bytes before its descriptors.
pub transport_stream_length : (e : EntryView) → IsEntry 6 e → length (transport_stream_bytes (transport_stream_of e)) ≡ length (entry_bytes e)
unfolding transport_stream_bytes transport_stream_front entry_bytes transport_stream_of
transport_stream_length e entry = omega (arith, entry.head_length, length-append e.head e.descriptors)
