-- A transport stream as it is written
use Rattle.std.proofs.Common.{◌≡◌, ℕ, ◌+◌, ◌/◌, ◌%◌, ◌^◌, ◌<◌, refl, [], ◌∷◌, length, arith}
use Rattle.bit_fields.specs.Fields.{number, fields}
use Rattle.psi_tables.specs.Loops.{entry_bytes, descriptors_length}
use Rattle.dvb_tables.specs.TransportStreams.{TransportStreamView, IsTransportStream, transport_stream_of, transport_stream_front, transport_stream_bytes}
use Rattle.dvb_tables.specs.Fits.{TransportStreamFits}
use Rattle.dvb_tables.proofs.TransportStreamFields.{numbers, said}
use Rattle.dvb_tables.proofs.EntrySequences.{Says}

spelled : (id network n : ℕ) → id < 2 ^ 16 → network < 2 ^ 16 → n < 2 ^ 12
    → number ((id / 256) ∷ (id % 256) ∷ (network / 256) ∷ (network % 256) ∷ (0xF0 + n / 256) ∷ (n % 256) ∷ [])
    ≡ fields ((16, id) ∷ (16, network) ∷ (4, 15) ∷ (12, n) ∷ [])
spelled id network n a b c = omega arith

-- The bytes that are written for a transport stream are a transport stream.
pub transport_stream_written : (t : TransportStreamView) → TransportStreamFits t → IsTransportStream (transport_stream_bytes t) t
unfolding transport_stream_bytes transport_stream_front
transport_stream_written t h = record {
  head = transport_stream_front t;
  is = refl;
  len = refl;
  reserved = 15;
  spelled = spelled t.transport_stream_id t.original_network_id (length t.descriptors) h.transport_stream_id h.original_network_id h.descriptors;
  transport_stream_id = h.transport_stream_id;
  original_network_id = h.original_network_id;
  four_bits = omega arith;
  transport_descriptors_length = h.descriptors;
}

-- The bytes that are written for a transport stream are an entry that encodes it.
pub transport_stream_said : (t : TransportStreamView) → TransportStreamFits t → Says 6 transport_stream_of (transport_stream_bytes t) t
unfolding transport_stream_bytes transport_stream_front entry_bytes descriptors_length transport_stream_written
transport_stream_said t h =
    let id = h.transport_stream_id in
    let network = h.original_network_id in
    let n = h.descriptors in
    let whole = numbers (t.transport_stream_id / 256) (t.transport_stream_id % 256) (t.original_network_id / 256) (t.original_network_id % 256)
    (0xF0 + length t.descriptors / 256) (length t.descriptors % 256) 15 t
    (omega (arith, id)) (omega arith) (omega (arith, network)) (omega arith) (omega (arith, n)) (omega arith) id network (omega arith) n
    (transport_stream_written t h).spelled in
    record {
      said = record { head = transport_stream_front t; descriptors = t.descriptors };
      is = refl;
      entry = record { head_length = refl; named = whole.count };
      value = said _ _ _ _ _ _ t whole;
    }
