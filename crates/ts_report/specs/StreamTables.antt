-- The streams whose buffers have begun.
use Rattle.std.specs.Prelude.{◌≡◌, ℕ, ◌+◌, ◌*◌, ◌&&◌, not, nat_eq, is_some, unwrap_or, Bool, if◌then◌else◌, List, [], ◌∷◌, ◌++◌, drop, length, set, slice_get}
use Rattle.std.specs.Prelude.{flat_map, Option, Some, None}
use Rattle.std.specs.List.{list_all}
use Rattle.std.specs.Map.{lookup}
use Rattle.indexmap.specs.IndexMap.{insert_entry}
use Rattle.ts_packet.specs.Views.{PacketView}
use Rattle.arrival.specs.Arrivals.{step_of}
use Rattle.stream_coding.specs.declared.coding.Coding.{Coding}
use Rattle.es_buffers.specs.declared.buffers.Buffers.{Buffers}
use Rattle.stream_coding.specs.Codings.{coding_of}
use Rattle.stream_programs.specs.Streams.{FoundStreamView}
use Rattle.ts_tables.specs.NamedStreams.{NamedView, stream_of}
use Rattle.ts_tables.specs.NamedStreams as naming
use Rattle.tstd_rows.specs.Held.{Held, empty}
use Rattle.events.specs.declared.event.Event.{Event}
use Rattle.es_view.specs.declared.stream_entry.StreamEntry.{StreamEntry}
use Rattle.ts_report.specs.declared.stream_table.StreamTable.{StreamTable}
use Rattle.es_events.specs.declared.view_options.ViewOptions.{ViewOptions}
use Rattle.ts_watch.specs.Choices.{ChoiceView, buffers_for, chosen, frames_for, rates_for}
use Rattle.es_events.specs.Clocks.{ClockEntries, clock_of}
use Rattle.es_view.specs.Entries.{EntryState, Framed, IsEntry, end_events, entry_after, entry_events, traces_of, units_of}
use Rattle.es_view.specs.EntryFrames.{unit_in}
use Rattle.es_view.specs.LastPayloads.{no_payload}
use Rattle.sound_frames.specs.declared.frame_headers.FrameKind.{FrameKind}
use Rattle.sound_frames.specs.FrameWalks.{no_walk}
use Rattle.es_buffers.specs.Stays.{longest_stay}
use Rattle.es_view.specs.Entries.{is_good as entry_is_good}
use Rattle.es_events.specs.EntryEvents.{stream_event}
use Rattle.es_events.specs.Tallies.{none_counted}
use Rattle.es_events.specs.VideoFigures.{sizes_if}
use Rattle.es_events.specs.VideoTallies.{none_of_video}
use Rattle.es_events.specs.MarkTallies.{none_marked}
use Rattle.tstd_rows.specs.declared.video_buffers.VideoRates.{VideoRates}

-- which streams are viewed, the place of each PID, and the streams
pub record TableState : Type 0 where
  pub choice : ChoiceView
  pub places : List (ℕ × ℕ)
  pub entries : List EntryState

abbrev pub no_streams : ChoiceView → TableState
no_streams choice = record { choice = choice; places = []; entries = [] }

-- streams one by one
unfoldable pub AreEntries : List StreamEntry → List EntryState → Type 0
AreEntries [] [] = Unit {0}
AreEntries [] (e ∷ es) = ⊥
AreEntries (entry ∷ more) [] = ⊥
AreEntries (entry ∷ more) (e ∷ es) = IsEntry entry e × AreEntries more es

pub record IsTable (table : StreamTable) (t : TableState) : Type 0 where
  pub choice : table.choice ≡ t.choice
  pub places : table.places.entries ≡ t.places
  pub entries : AreEntries table.entries.items t.entries

-- 1. Where buffers begin

-- the coding of a stream by its entry in the map and by the packet where its first PES packet begins
abbrev pub coding_by : FoundStreamView → PacketView → Coding
coding_by stream packet = coding_of stream.stream_type stream.descriptors (unit_in (unwrap_or packet.payload []))

-- the buffers of a stream
abbrev pub stream_buffers : TableState → FoundStreamView → PacketView → Buffers
stream_buffers t stream packet = buffers_for t.choice packet.header.pid (coding_by stream packet)

-- for video its two buffers, if they are viewed
abbrev pub stream_rates : TableState → FoundStreamView → PacketView → Option VideoRates
stream_rates t stream packet = rates_for t.choice packet.header.pid (coding_by stream packet)

-- the stream whose buffers begin with a packet: the first that begins a PES packet of it once it is named, of a program that is viewed
abbrev pub beginning : NamedView → TableState → PacketView → Option FoundStreamView
beginning named t packet =
    if packet.header.payload_unit_start_indicator && not (is_some (lookup (nat_eq packet.header.pid) t.places)) then chosen t.choice
    (stream_of named packet.header.pid) else None

-- for sound its frames, if its main buffer is viewed by access units
abbrev pub stream_frames : TableState → FoundStreamView → PacketView → Option FrameKind
stream_frames t stream packet = frames_for t.choice packet.header.pid stream.stream_type stream.descriptors

-- how long its bytes may stay, in ticks
abbrev pub stream_limit : FoundStreamView → ℕ
stream_limit stream = longest_stay stream.stream_type stream.descriptors * 27000000

unfoldable pub new_framed : Held → Option FrameKind → Option Framed
new_framed held None = None
new_framed held (Some kind) = Some (record { walk = no_walk kind; tick = 0; held = held; tally = none_counted })

abbrev pub new_entry : ViewOptions → ℕ → ℕ → Buffers → Option VideoRates → Option FrameKind → ℕ → EntryState
new_entry options pid clock_pid buffers rates kind limit = record {
  pid = pid;
  clock_pid = clock_pid;
  last = no_payload;
  held = empty (step_of options.arrival) buffers.rx buffers.main;
  tally = none_counted;
  video = sizes_if (step_of options.arrival) buffers.rx rates;
  video_tally = none_of_video;
  mark_tally = none_marked;
  framed = new_framed (empty (step_of options.arrival) buffers.rx buffers.main) kind;
  limit = limit;
  delayed = 0;
}

abbrev pub with_entry : TableState → ℕ → EntryState → TableState
with_entry t pid e = record t { places = insert_entry nat_eq t.places pid (length t.entries); entries = t.entries ++ e ∷ [] }

unfoldable pub begun_if : ViewOptions → NamedView → TableState → PacketView → Option FoundStreamView → TableState
begun_if options named t packet None = t
begun_if options named t packet (Some stream) =
    with_entry t packet.header.pid
    (new_entry options packet.header.pid (naming.clock_of named stream.program) (stream_buffers t stream packet) (stream_rates t stream packet)
    (stream_frames t stream packet) (stream_limit stream))

abbrev pub begun : ViewOptions → NamedView → TableState → PacketView → TableState
begun options named t packet = begun_if options named t packet (beginning named t packet)

unfoldable pub begin_events_if : ℕ → TableState → PacketView → Option FoundStreamView → List Event
begin_events_if index t packet None = []
begin_events_if index t packet (Some stream) = stream_event index stream (coding_by stream packet) (stream_buffers t stream packet) ∷ []

abbrev pub begin_events : ℕ → NamedView → TableState → PacketView → List Event
begin_events index named t packet = begin_events_if index t packet (beginning named t packet)

-- 2. A packet enters the buffers of its PID, if there are any

abbrev pub entry_taken : ViewOptions → ℕ → ℕ → ClockEntries → PacketView → EntryState → EntryState
entry_taken options index window clocks packet e = entry_after options index window (clock_of clocks e.clock_pid) e packet

unfoldable pub taken_at : ViewOptions → ℕ → ℕ → ClockEntries → TableState → PacketView → ℕ → Option EntryState → TableState
taken_at options index window clocks t packet place None = t
taken_at options index window clocks t packet place (Some e) =
    record t { entries = set t.entries place (entry_taken options index window clocks packet e) }

unfoldable pub taken_if : ViewOptions → ℕ → ℕ → ClockEntries → TableState → PacketView → Option ℕ → TableState
taken_if options index window clocks t packet None = t
taken_if options index window clocks t packet (Some place) = taken_at options index window clocks t packet place (slice_get t.entries place)

abbrev pub taken : ViewOptions → ℕ → ℕ → ClockEntries → TableState → PacketView → TableState
taken options index window clocks t packet = taken_if options index window clocks t packet (lookup (nat_eq packet.header.pid) t.places)

unfoldable pub events_in : ViewOptions → ℕ → ClockEntries → PacketView → Option EntryState → List Event
events_in options index clocks packet None = []
events_in options index clocks packet (Some e) = entry_events options index (clock_of clocks e.clock_pid) e packet

unfoldable pub events_if : ViewOptions → ℕ → ClockEntries → TableState → PacketView → Option ℕ → List Event
events_if options index clocks t packet None = []
events_if options index clocks t packet (Some place) = events_in options index clocks packet (slice_get t.entries place)

abbrev pub events_of : ViewOptions → ℕ → ClockEntries → TableState → PacketView → List Event
events_of options index clocks t packet = events_if options index clocks t packet (lookup (nat_eq packet.header.pid) t.places)

-- 3. All streams

-- the buffers of a PID have begun
abbrev pub has_stream : TableState → ℕ → Bool
has_stream t pid = is_some (lookup (nat_eq pid) t.places)

abbrev pub table_units : ViewOptions → ℕ → TableState → List Event
table_units options window t = flat_map (units_of options window) t.entries

abbrev pub table_end : ViewOptions → ℕ → ℕ → TableState → List Event
table_end options packets window t = flat_map (end_events options packets window) t.entries ++ flat_map (traces_of options) t.entries

abbrev pub is_good : TableState → Bool
is_good t = list_all entry_is_good t.entries
