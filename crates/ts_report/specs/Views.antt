-- A stream packet by packet: its state, and the events that each packet settles.
use Rattle.std.specs.Prelude.{◌≡◌, ℕ, ◌==◌, Bool, false, if◌then◌else◌, List, [], ◌∷◌, ◌++◌, Result, Ok, Err}
use Rattle.ts_packet.specs.declared.packet.PacketError.{PacketError}
use Rattle.ts_packet.specs.Views.{PacketView}
use Rattle.ts_packet.specs.Reading.{packet_at}
use Rattle.ts_packet.specs.Packets.{null_packet}
use Rattle.events.specs.declared.event.Event.{Event}
use Rattle.ts_report.specs.declared.view.View.{View}
use Rattle.arrival.specs.declared.arrival.Arrival.{Arrival}
use Rattle.ts_watch.specs.Choices.{RequestView}
use Rattle.events.specs.declared.packet_fault.RefusalCause.TheVariants as causes
use Rattle.ts_report.specs.Seen.{SeenState, cause_of, clock_errors, counted, counter_events, section_events, end_event, next_window, nothing_seen, pid_ends}
use Rattle.ts_report.specs.Seen.{refused_events, system_excesses, window_ends, with_clock, with_counter_read}
use Rattle.ts_watch.specs.RuleEvents.{holds_none}
use Rattle.ts_report.specs.Seen as seeing
use Rattle.ts_report.specs.StreamTables.{IsTable, TableState, begin_events, begun, has_stream, events_of, no_streams, table_end, table_units, taken}
use Rattle.ts_report.specs.StreamTables as tables
use Rattle.ts_watch.specs.SystemEvents.{all_fit, system_events}
use Rattle.system_tables.specs.Programs.{known}

-- the state: of the transport stream, and of the streams whose buffers have begun
pub record ViewState : Type 0 where
  pub seen : SeenState
  pub table : TableState

pub record IsView (view : View) (s : ViewState) : Type 0 where
  pub seen : view.seen ≡ s.seen
  pub table : IsTable view.table s.table

-- before the first packet
abbrev pub start : RequestView → ViewState
start request = record { seen = nothing_seen request.stamps request.options; table = no_streams request.choice }

-- the arrival of a number of next packets
abbrev pub arriving : ViewState → Arrival → ℕ → ViewState
arriving s arrival count = record { seen = seeing.arriving s.seen arrival count; table = s.table }

-- a packet that can't be read, or says that it is wrong
abbrev pub without : ViewState → ViewState
without s = record { seen = seeing.without s.seen; table = s.table }

-- a packet that can be read: its stream's buffers begin with it, if they do, and it enters them
abbrev pub with_begun : ViewState → PacketView → TableState
with_begun s packet = begun s.seen.options s.seen.named s.table packet

abbrev pub with_buffers : ViewState → PacketView → ViewState
with_buffers s packet = record {
  seen = s.seen;
  table = taken s.seen.options s.seen.packets (next_window s.seen) s.seen.clocks (with_begun s packet) packet;
}

abbrev pub clocked : ViewState → PacketView → ViewState
clocked s packet = record { seen = with_clock s.seen packet; table = s.table }

abbrev pub with_packet : ViewState → PacketView → ViewState
with_packet s packet = record {
  seen = counted (with_clock s.seen packet) packet;
  table = (with_buffers (clocked s packet) packet).table;
}

unfoldable pub after_read : ViewState → Result PacketView PacketError → ViewState
after_read s (Err error) = without s
after_read s (Ok packet) = if packet.header.transport_error_indicator then without s else with_packet s packet

-- the events of the last packet's window: bit rates and clock references by PID, and units by stream
abbrev pub all_window_events : ViewState → List Event
all_window_events s = window_ends s.seen ++ table_units s.seen.options s.seen.window.number s.table

-- a packet of another window settles them
abbrev pub last_window : ViewState → List Event
last_window s = if s.seen.window.number == next_window s.seen then [] else all_window_events s

-- the events of the errors of its clock reference, of buffers that begin with it, and of units and excesses that end with it: of streams, and of
-- programs' tables
abbrev pub buffer_events_at : ViewState → PacketView → List Event
buffer_events_at s packet = begin_events s.seen.packets s.seen.named s.table packet
    ++ events_of s.seen.options s.seen.packets s.seen.clocks (with_begun s packet) packet

abbrev pub system_events_at : ViewState → PacketView → List Event
system_events_at s packet = system_excesses s.seen (with_buffers s packet).table.choice packet

abbrev pub packet_events : ViewState → PacketView → List Event
packet_events s packet =
    last_window s ++ (clock_errors s.seen packet ++ (buffer_events_at (clocked s packet) packet ++ system_events_at (clocked s packet) packet))

unfoldable pub events_read : ViewState → Result PacketView PacketError → List Event
events_read s (Err error) = refused_events s.seen (cause_of error)
events_read s (Ok packet) = if packet.header.transport_error_indicator then refused_events s.seen causes.TransportError else packet_events s packet

-- the 188 bytes that are searched for tables: a packet of a stream whose buffers have begun is replaced by a null packet
unfoldable pub without_stream : ViewState → List ℕ → Result PacketView PacketError → List ℕ
without_stream s bytes (Err error) = bytes
without_stream s bytes (Ok packet) = if has_stream s.table packet.header.pid then null_packet else bytes

abbrev pub with_tables : ViewState → List ℕ → ViewState
with_tables s bytes = record { seen = seeing.with_sections s.seen (without_stream s bytes (packet_at bytes)); table = s.table }

abbrev pub table_events_at : ViewState → List ℕ → List Event
table_events_at s bytes = section_events s.seen (without_stream s bytes (packet_at bytes))

-- the tables of a packet, and then its continuity_counter
abbrev pub with_sections : ViewState → List ℕ → ViewState
with_sections s bytes = record { seen = with_counter_read (with_tables s bytes).seen bytes (packet_at bytes); table = s.table }

abbrev pub counter_events_at : ViewState → List ℕ → List Event
counter_events_at s bytes = counter_events (with_tables s bytes).seen bytes (packet_at bytes)

-- after 188 bytes, and the events that they settle; tables in them count from the next packet on
abbrev pub with_named : ViewState → List ℕ → ViewState
with_named s bytes = record { seen = seeing.with_named s.seen bytes; table = s.table }

abbrev pub after_packet : ViewState → List ℕ → ViewState
after_packet s bytes = with_named (with_sections (after_read s (packet_at bytes)) bytes) bytes

abbrev pub events_at : ViewState → List ℕ → List Event
events_at s bytes =
    events_read s (packet_at bytes) ++ (table_events_at (after_read s (packet_at bytes)) bytes ++ counter_events_at (after_read s (packet_at bytes)) bytes)

-- after packets
unfoldable pub after_all : ViewState → List (List ℕ) → ViewState
after_all s [] = s
after_all s (bytes ∷ packets) = after_all (after_packet s bytes) packets

unfoldable pub events_all : ViewState → List (List ℕ) → List Event
events_all s [] = []
events_all s (bytes ∷ packets) = events_at s bytes ++ events_all (after_packet s bytes) packets

-- the events at the end of a stream
abbrev pub end_events : ViewState → ℕ → List Event
end_events s left = window_ends s.seen
    ++ (table_end s.seen.options s.seen.packets s.seen.window.number s.table
    ++ (system_events s.seen.options s.table.choice s.seen.packets (known s.seen.systems) ++ (pid_ends s.seen ++ end_event s.seen left ∷ [])))

-- nothing is wrong
abbrev pub is_good : ViewState → ℕ → Bool
is_good s left =
    if s.seen.refused ==
    0 then (if s.seen.errors ==
    0 then (if holds_none
    s.seen.rules then (if s.seen.tables.times.errors ==
    0 then (if left == 0 then (if all_fit s.table.choice (known s.seen.systems) then tables.is_good s.table else false) else false) else false) else false)
    else false) else false
