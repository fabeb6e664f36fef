-- A transport stream in a network information section (EN 300 468, 5.2.1).
use Rattle.std.specs.Prelude.{◌≡◌, ℕ, ◌+◌, ◌*◌, ◌/◌, ◌%◌, ◌^◌, ◌<◌, if◌then◌else◌, is_some, Result, Ok, Err, List, [], ◌∷◌, ◌++◌, length, slice_index, map}
use Rattle.std.specs.Prelude.{flat_map}
use Rattle.bit_fields.specs.Fields.{number, fields}
use Rattle.psi_tables.specs.Loops.{EntryView, loop_at, entries_in}
use Rattle.psi_tables.specs.declared.error.SectionError.{SectionError}
use Rattle.psi_tables.specs.declared.error.SectionError.TheVariants.{Body}
use Rattle.dvb_tables.specs.declared.transport_stream.TransportStream.{TransportStream}
use Rattle.dvb_tables.specs.declared.transport_stream.TransportStreams.{TransportStreams}
use Rattle.dvb_tables.specs.declared.transport_stream_loop.TransportStreamLoop.{TransportStreamLoop}

-- the content of a transport stream
pub record TransportStreamView : Type 0 where
  pub transport_stream_id : ℕ
  pub original_network_id : ℕ
  pub descriptors : List ℕ

-- a transport stream, its descriptors as a list of bytes
abbrev pub transport_stream_view : TransportStream → TransportStreamView
transport_stream_view t = record {
  transport_stream_id = t.transport_stream_id;
  original_network_id = t.original_network_id;
  descriptors = t.descriptors.now;
}

-- six bytes and the descriptors: transport_stream_id, original_network_id, four reserved bits,
-- transport_descriptors_length
pub record IsTransportStream (bytes : List ℕ) (t : TransportStreamView) : Type 0 where
  pub head : List ℕ
  pub is : bytes ≡ head ++ t.descriptors
  pub len : length head ≡ 6
  pub reserved : ℕ
  pub spelled : number head ≡ fields ((16, t.transport_stream_id) ∷ (16, t.original_network_id) ∷ (4, reserved) ∷ (12, length t.descriptors) ∷ [])
  pub transport_stream_id : t.transport_stream_id < 2 ^ 16
  pub original_network_id : t.original_network_id < 2 ^ 16
  pub four_bits : reserved < 2 ^ 4
  pub transport_descriptors_length : length t.descriptors < 2 ^ 12

-- the transport stream that an entry of a loop encodes
unfoldable pub transport_stream_of : EntryView → TransportStreamView
transport_stream_of e = record {
  transport_stream_id = slice_index e.head 0 * 256 + slice_index e.head 1;
  original_network_id = slice_index e.head 2 * 256 + slice_index e.head 3;
  descriptors = e.descriptors;
}

-- the transport streams of a whole loop
unfoldable pub transport_streams_in : List ℕ → List TransportStreamView
transport_streams_in bytes = map transport_stream_of (entries_in 6 bytes)

-- the transport streams of a loop; Body if it ends within an entry
unfoldable pub transport_streams_at : List ℕ → Result (List TransportStreamView) SectionError
transport_streams_at bytes = if is_some (loop_at 6 bytes) then Ok (transport_streams_in bytes) else Err Body

-- the remaining transport streams of an iterator over a loop
unfoldable pub transport_streams_of : TransportStreams → List TransportStreamView
transport_streams_of t = transport_streams_in t.bytes.now

-- the transport streams that a loop holds
unfoldable pub transport_stream_loop_of : TransportStreamLoop → List TransportStreamView
transport_stream_loop_of l = transport_streams_in l.bytes.items

-- the six bytes before the descriptors, as they are written: reserved bits 1
unfoldable pub transport_stream_front : TransportStreamView → List ℕ
transport_stream_front t = (t.transport_stream_id / 256) ∷ (t.transport_stream_id % 256)
    ∷ (t.original_network_id / 256) ∷ (t.original_network_id % 256)
    ∷ (0xF0 + length t.descriptors / 256) ∷ (length t.descriptors % 256) ∷ []

-- a transport stream as it is written
unfoldable pub transport_stream_bytes : TransportStreamView → List ℕ
transport_stream_bytes t = transport_stream_front t ++ t.descriptors

-- transport streams as they are written
unfoldable pub transport_streams_bytes : List TransportStreamView → List ℕ
transport_streams_bytes ts = flat_map transport_stream_bytes ts
