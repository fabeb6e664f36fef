-- The event information table of present and following events of the actual transport stream (EN 300 468, 5.2.4).
use Rattle.std.specs.Prelude.{◌≡◌, ℕ, ◌+◌, ◌*◌, ◌/◌, ◌%◌, ◌^◌, ◌<◌, ◌≤◌, nat_lt, if◌then◌else◌, true, List, [], ◌∷◌, ◌++◌, length, take, drop, slice_index}
use Rattle.std.specs.Prelude.{Some, Result, Ok, Err}
use Rattle.bit_fields.specs.Fields.{number, fields}
use Rattle.bit_fields.specs.Reading.{◌>>=◌}
use Rattle.psi_tables.specs.Views.{SectionView}
use Rattle.psi_tables.specs.Tables.{table_header_at}
use Rattle.psi_tables.specs.declared.error.SectionError.{SectionError}
use Rattle.psi_tables.specs.declared.error.SectionError.TheVariants.{Body}
use Rattle.psi_tables.specs.declared.section.LongHeader.{LongHeader}
use Rattle.dvb_tables.specs.Sequences.{IsSequence}
use Rattle.dvb_tables.specs.EventEntries.{EventView, IsEvent, events_at, events_in, events_bytes}
use Rattle.dvb_tables.specs.declared.event_loop.EventLoop.{EventLoop}
use Rattle.dvb_tables.specs.declared.event_information.EitPf.{EitPf}

-- the content of an event information section
pub record EitView : Type 0 where
  pub header : LongHeader
  pub transport_stream_id : ℕ
  pub original_network_id : ℕ
  pub segment_last_section_number : ℕ
  pub last_table_id : ℕ
  pub events : List EventView

-- a section is an event information section with this content: transport_stream_id, original_network_id,
-- segment_last_section_number, last_table_id, the events
pub record IsEit (s : SectionView) (t : EitView) : Type 0 where
  pub table_id : s.header.table_id ≡ 0x4E
  pub long : s.header.long ≡ Some t.header
  pub section_length : 9 + length s.body ≤ 4093
  pub front : List ℕ
  pub loop : List ℕ
  pub is : s.body ≡ front ++ loop
  pub front_length : length front ≡ 6
  pub spelled : number front ≡ fields ((16, t.transport_stream_id) ∷ (16, t.original_network_id)
      ∷ (8, t.segment_last_section_number) ∷ (8, t.last_table_id) ∷ [])
  pub transport_stream_id : t.transport_stream_id < 2 ^ 16
  pub original_network_id : t.original_network_id < 2 ^ 16
  pub segment_last_section_number : t.segment_last_section_number < 2 ^ 8
  pub last_table_id : t.last_table_id < 2 ^ 8
  pub events : IsSequence IsEvent loop t.events

-- the table whose body begins with these six bytes and continues with a loop of events
unfoldable pub eit_after : LongHeader → List ℕ → List ℕ → Result EitView SectionError
eit_after header front loop = events_at loop >>= λ events. Ok (record {
  header = header;
  transport_stream_id = slice_index front 0 * 256 + slice_index front 1;
  original_network_id = slice_index front 2 * 256 + slice_index front 3;
  segment_last_section_number = slice_index front 4;
  last_table_id = slice_index front 5;
  events = events;
})

-- the table of this body
unfoldable pub eit_body_at : LongHeader → List ℕ → Result EitView SectionError
eit_body_at header body = if nat_lt (length body) 6 then Err Body else eit_after header (take 6 body) (drop 6 body)

-- reading: Syntax, Length, then Body if the section ends within the front or an entry
unfoldable pub eit_at : SectionView → Result EitView SectionError
eit_at s = table_header_at 0x4E 4093 s >>= λ header. eit_body_at header s.body

-- two numbers of 16 bits
unfoldable pub two_numbers : ℕ → ℕ → List ℕ
two_numbers m n = (m / 256) ∷ (m % 256) ∷ (n / 256) ∷ (n % 256) ∷ []

-- the body as it is written
unfoldable pub eit_body : EitView → List ℕ
eit_body t = two_numbers t.transport_stream_id t.original_network_id
    ++ (t.segment_last_section_number ∷ t.last_table_id ∷ []) ++ events_bytes t.events

-- the section that carries an event information table
unfoldable pub eit_section : EitView → SectionView
eit_section t = record { header = record { table_id = 0x4E; private_indicator = true; long = Some t.header }; body = eit_body t }

-- the events that a loop holds
unfoldable pub event_loop_of : EventLoop → List EventView
event_loop_of e = events_in e.bytes.items

-- the content of an event information table
abbrev pub eit_view : EitPf → EitView
eit_view t = record {
  header = t.header;
  transport_stream_id = t.transport_stream_id;
  original_network_id = t.original_network_id;
  segment_last_section_number = t.segment_last_section_number;
  last_table_id = t.last_table_id;
  events = event_loop_of t.events;
}
