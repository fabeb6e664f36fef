-- The network information table of the actual network (EN 300 468, 5.2.1).
use Rattle.std.specs.Prelude.{◌≡◌, ℕ, ◌+◌, ◌/◌, ◌%◌, ◌^◌, ◌<◌, ◌≤◌, ◌==◌, if◌then◌else◌, true, List, [], ◌∷◌, ◌++◌, length, Option, None, Some, Result, Ok, Err}
use Rattle.bit_fields.specs.Fields.{number, fields}
use Rattle.bit_fields.specs.Reading.{◌>>=◌}
use Rattle.psi_tables.specs.Views.{SectionView}
use Rattle.psi_tables.specs.Tables.{table_header_at}
use Rattle.psi_tables.specs.Loops.{EntryView, entry_at}
use Rattle.psi_tables.specs.declared.error.SectionError.{SectionError}
use Rattle.psi_tables.specs.declared.error.SectionError.TheVariants.{Body}
use Rattle.psi_tables.specs.declared.section.LongHeader.{LongHeader}
use Rattle.dvb_tables.specs.Sequences.{IsSequence}
use Rattle.dvb_tables.specs.TransportStreams.{TransportStreamView, IsTransportStream, transport_streams_at, transport_streams_of, transport_streams_bytes}
use Rattle.dvb_tables.specs.declared.network_information.Nit.{Nit}

-- the content of a network information section
pub record NitView : Type 0 where
  pub header : LongHeader
  pub network_descriptors : List ℕ
  pub transport_streams : List TransportStreamView

-- two bytes: four reserved bits and a number of bytes
pub record IsLoopLength (bytes : List ℕ) (n : ℕ) : Type 0 where
  pub len : length bytes ≡ 2
  pub reserved : ℕ
  pub spelled : number bytes ≡ fields ((4, reserved) ∷ (12, n) ∷ [])
  pub four_bits : reserved < 2 ^ 4
  pub twelve_bits : n < 2 ^ 12

-- a section is a network information section with this content: network_descriptors_length and the descriptors,
-- transport_stream_loop_length and the transport streams
pub record IsNit (s : SectionView) (t : NitView) : Type 0 where
  pub table_id : s.header.table_id ≡ 0x40
  pub long : s.header.long ≡ Some t.header
  pub section_length : 9 + length s.body ≤ 1021
  pub descriptors_head : List ℕ
  pub loop_head : List ℕ
  pub loop : List ℕ
  pub is : s.body ≡ (descriptors_head ++ t.network_descriptors) ++ (loop_head ++ loop)
  pub network_descriptors_length : IsLoopLength descriptors_head (length t.network_descriptors)
  pub transport_stream_loop_length : IsLoopLength loop_head (length loop)
  pub transport_streams : IsSequence IsTransportStream loop t.transport_streams

-- the bytes that two bytes count, up to the end
unfoldable pub to_the_end : Option (EntryView × List ℕ) → Result (List ℕ) SectionError
to_the_end None = Err Body
to_the_end (Some p) = if length p.1 == 0 then Ok p.0.descriptors else Err Body

-- the table that has these descriptors, and these bytes after them
unfoldable pub nit_after : LongHeader → Option (EntryView × List ℕ) → Result NitView SectionError
nit_after header None = Err Body
nit_after header (Some p) = to_the_end (entry_at 2 p.1) >>= λ loop. transport_streams_at loop >>= λ streams. Ok (record {
  header = header;
  network_descriptors = p.0.descriptors;
  transport_streams = streams;
})

-- reading: Syntax, Length, then Body if a length does not fit, the loop is not all that is left, or it ends within an entry
unfoldable pub nit_at : SectionView → Result NitView SectionError
nit_at s = table_header_at 0x40 1021 s >>= λ header. nit_after header (entry_at 2 s.body)

-- a number of bytes as it is written after four reserved bits
unfoldable pub loop_length_bytes : ℕ → List ℕ
loop_length_bytes n = (0xF0 + n / 256) ∷ (n % 256) ∷ []

-- the body as it is written, reserved bits 1
unfoldable pub nit_body : NitView → List ℕ
nit_body t =
    let loop = transport_streams_bytes t.transport_streams in
    loop_length_bytes (length t.network_descriptors) ++ t.network_descriptors ++ loop_length_bytes (length loop) ++ loop

-- the section that carries a network information table
unfoldable pub nit_section : NitView → SectionView
nit_section t = record { header = record { table_id = 0x40; private_indicator = true; long = Some t.header }; body = nit_body t }

-- the content of a network information table
abbrev pub nit_view : Nit → NitView
nit_view t = record { header = t.header; network_descriptors = t.network_descriptors.now; transport_streams = transport_streams_of t.transport_streams }
