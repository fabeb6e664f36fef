-- The program map table (ISO/IEC 13818-1, 2.4.4.8 and 2.4.4.9).
use Rattle.std.specs.Prelude.{◌≡◌, ℕ, ◌+◌, ◌*◌, ◌/◌, ◌%◌, ◌^◌, ◌<◌, ◌≤◌, if◌then◌else◌, false, List, [], ◌∷◌, ◌++◌, length, slice_index, Option, None, Some}
use Rattle.std.specs.Prelude.{Result, Ok, Err, is_some, map, flat_map}
use Rattle.bit_fields.specs.Fields.{number, fields}
use Rattle.bit_fields.specs.Reading.{◌>>=◌}
use Rattle.psi_tables.specs.Views.{SectionView}
use Rattle.psi_tables.specs.Encoding.{LongFits}
use Rattle.psi_tables.specs.Tables.{table_header_at}
use Rattle.psi_tables.specs.Loops.{EntryView, entry_at, loop_at, entries_in, entry_bytes}
use Rattle.psi_tables.specs.declared.error.SectionError.{SectionError}
use Rattle.psi_tables.specs.declared.error.SectionError.TheVariants.{Body}
use Rattle.psi_tables.specs.declared.section.LongHeader.{LongHeader}
use Rattle.psi_tables.specs.declared.section.SectionHeader.{SectionHeader}
use Rattle.psi_tables.specs.declared.pmt.streams.Stream.{Stream}
use Rattle.psi_tables.specs.declared.pmt.streams.Streams.{Streams}
use Rattle.psi_tables.specs.declared.pmt.stream_loop.StreamLoop.{StreamLoop}
use Rattle.psi_tables.specs.declared.pmt.Pmt.{Pmt}

-- an elementary stream of a program
pub record StreamView : Type 0 where
  pub stream_type : ℕ
  pub elementary_pid : ℕ
  pub descriptors : List ℕ

-- the content of a program map section
pub record PmtView : Type 0 where
  pub header : LongHeader
  pub pcr_pid : ℕ
  pub program_info : List ℕ
  pub streams : List StreamView

-- one entry: stream_type, three reserved bits, elementary_PID, four reserved bits, ES_info_length, descriptors
pub record IsStream (bytes : List ℕ) (s : StreamView) : Type 0 where
  pub head : List ℕ
  pub is : bytes ≡ head ++ s.descriptors
  pub reserved : ℕ
  pub reserved_after : ℕ
  pub head_length : length head ≡ 5
  pub spelled : number head ≡ fields ((8, s.stream_type) ∷ (3, reserved) ∷ (13, s.elementary_pid) ∷ (4, reserved_after) ∷ (12, length s.descriptors) ∷ [])
  pub stream_type : s.stream_type < 2 ^ 8
  pub three_bits : reserved < 2 ^ 3
  pub elementary_pid : s.elementary_pid < 2 ^ 13
  pub four_bits : reserved_after < 2 ^ 4
  pub info_length : length s.descriptors < 2 ^ 12

-- the bytes are these entries, in order
abbrev pub AreStreams : List ℕ → List StreamView → Type 0
AreStreams bytes [] = bytes ≡ []
AreStreams bytes (s ∷ ss) = (one : List ℕ) × (rest : List ℕ) × (bytes ≡ one ++ rest) × IsStream one s × AreStreams rest ss

-- a section is a program map section with this content: three reserved bits, PCR_PID, four reserved bits, program_info_length,
-- the program's descriptors, the entries
pub record IsPmt (s : SectionView) (p : PmtView) : Type 0 where
  pub table_id : s.header.table_id ≡ 0x02
  pub long : s.header.long ≡ Some p.header
  pub section_length : 9 + length s.body ≤ 1021
  pub head : List ℕ
  pub loop : List ℕ
  pub is : s.body ≡ head ++ (p.program_info ++ loop)
  pub reserved : ℕ
  pub reserved_after : ℕ
  pub head_length : length head ≡ 4
  pub spelled : number head ≡ fields ((3, reserved) ∷ (13, p.pcr_pid) ∷ (4, reserved_after) ∷ (12, length p.program_info) ∷ [])
  pub three_bits : reserved < 2 ^ 3
  pub pcr_pid : p.pcr_pid < 2 ^ 13
  pub four_bits : reserved_after < 2 ^ 4
  pub info_length : length p.program_info < 2 ^ 12
  pub streams : AreStreams loop p.streams

-- the stream that an entry names
unfoldable pub stream_of : EntryView → StreamView
stream_of e = record {
  stream_type = slice_index e.head 0;
  elementary_pid = slice_index e.head 1 % 32 * 256 + slice_index e.head 2;
  descriptors = e.descriptors;
}

-- the streams of a whole loop
unfoldable pub streams_in : List ℕ → List StreamView
streams_in bytes = map stream_of (entries_in 5 bytes)

-- the streams of a loop; Body if it ends within an entry
unfoldable pub streams_at : List ℕ → Result (List StreamView) SectionError
streams_at bytes = if is_some (loop_at 5 bytes) then Ok (streams_in bytes) else Err Body

-- the table whose body begins with this entry and continues with a loop of streams
unfoldable pub pmt_after : LongHeader → Option (EntryView × List ℕ) → Result PmtView SectionError
pmt_after header None = Err Body
pmt_after header (Some p) = streams_at p.1 >>= λ streams. Ok (record {
  header = header;
  pcr_pid = slice_index p.0.head 0 % 32 * 256 + slice_index p.0.head 1;
  program_info = p.0.descriptors;
  streams = streams;
})

-- reading: Syntax, Length, then Body if program_info_length or an ES_info_length does not fit
unfoldable pub pmt_at : SectionView → Result PmtView SectionError
pmt_at s = table_header_at 0x02 1021 s >>= λ header. pmt_after header (entry_at 4 s.body)

-- the number of bytes of descriptors, as it is written after four reserved bits
unfoldable pub info_length_bytes : ℕ → List ℕ
info_length_bytes n = (0xF0 + n / 256 % 16) ∷ (n % 256) ∷ []

-- a PID as it is written after three reserved bits
unfoldable pub pid_bytes : ℕ → List ℕ
pid_bytes pid = (0xE0 + pid / 256 % 32) ∷ (pid % 256) ∷ []

-- an entry as it is written, reserved bits 1
unfoldable pub stream_entry : StreamView → EntryView
stream_entry s = record {
  head = s.stream_type ∷ (pid_bytes s.elementary_pid ++ info_length_bytes (length s.descriptors));
  descriptors = s.descriptors;
}

unfoldable pub stream_bytes : StreamView → List ℕ
stream_bytes s = entry_bytes (stream_entry s)

-- entries as they are written
unfoldable pub streams_bytes : List StreamView → List ℕ
streams_bytes ss = flat_map stream_bytes ss

-- the body of a program map section
unfoldable pub pmt_body : PmtView → List ℕ
pmt_body p = pid_bytes p.pcr_pid ++ info_length_bytes (length p.program_info) ++ p.program_info ++ streams_bytes p.streams

-- the header of the section that carries a PMT
unfoldable pub pmt_header : LongHeader → SectionHeader
pmt_header header = record { table_id = 0x02; private_indicator = false; long = Some header }

-- the section that carries a PMT
unfoldable pub pmt_section : PmtView → SectionView
pmt_section p = record { header = pmt_header p.header; body = pmt_body p }

-- the content of a stream
abbrev pub stream_view : Stream → StreamView
stream_view s = record { stream_type = s.stream_type; elementary_pid = s.elementary_pid; descriptors = s.descriptors.now }

-- the remaining streams of an iterator over a stream loop
unfoldable pub streams_of : Streams → List StreamView
streams_of s = streams_in s.bytes.now

-- the streams of a loop that is being written
unfoldable pub stream_loop_of : StreamLoop → List StreamView
stream_loop_of l = streams_in l.bytes.items

-- the content of a PMT
abbrev pub pmt_view : Pmt → PmtView
pmt_view p = record { header = p.header; pcr_pid = p.pcr_pid; program_info = p.program_info.now; streams = streams_of p.streams }

-- a stream whose numbers have room in their fields
pub record StreamFits (s : StreamView) : Type 0 where
  pub stream_type : s.stream_type < 2 ^ 8
  pub elementary_pid : s.elementary_pid < 2 ^ 13
  pub info_length : length s.descriptors < 2 ^ 12

-- streams whose numbers have room
abbrev pub StreamsFit : List StreamView → Type 0
StreamsFit [] = Unit {0}
StreamsFit (s ∷ ss) = StreamFits s × StreamsFit ss

-- a PMT that can be written
pub record PmtFits (p : PmtView) : Type 0 where
  pub header : LongFits p.header
  pub pcr_pid : p.pcr_pid < 2 ^ 13
  pub streams : StreamsFit p.streams
  pub room : 9 + length (pmt_body p) ≤ 1021
