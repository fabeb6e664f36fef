-- The state of a stream without its buffers.
use Rattle.std.specs.Prelude.{ℕ, ◌+◌, ◌-◌, ◌/◌, ◌^◌, ◌==◌, ◌&&◌, ◌||◌, not, min, nat_le, nat_lt, Bool, false, if◌then◌else◌, is_some, List, [], ◌∷◌, ◌++◌, Option, None, Some, Result, Ok, Err}
use Rattle.ts_packet.specs.declared.packet.PacketError.{PacketError}
use Rattle.ts_packet.specs.declared.packet.PacketError.TheVariants as packet_errors
use Rattle.ts_packet.specs.PidList.{Entry}
use Rattle.ts_packet.specs.Views.{PacketView}
use Rattle.ts_packet.specs.PcrBytes.{has_pcr}
use Rattle.tr101290.specs.Windows.{WindowView, no_packet, one_more, taken}
use Rattle.ts_tables.specs.NamedStreams.{NamedView, none_taken}
use Rattle.ts_tables.specs.NamedStreams as naming
use Rattle.ts_tables.specs.ServiceNames.{NamesState}
use Rattle.ts_tables.specs.ServiceNames as naming_services
use Rattle.system_tables.specs.Programs.{ProgramState}
use Rattle.system_tables.specs.Programs as programs
use Rattle.tr101290.specs.PidWatches.{WatchesState, report_at}
use Rattle.tr101290.specs.PidWatches as watching
use Rattle.tr101290.specs.RateJudges.{JudgeState}
use Rattle.tr101290.specs.declared.report.PcrReport.{PcrReport}
use Rattle.tr101290.specs.declared.watch.PcrTiming.{PcrTiming}
use Rattle.tr101290.specs.declared.watch.PcrTiming.TheVariants.{ConstantRate, References, Stamps}
use Rattle.events.specs.declared.packet_fault.RefusalCause.{RefusalCause}
use Rattle.events.specs.declared.packet_fault.RefusalCause.TheVariants as causes
use Rattle.tr101290.specs.Continuity.{Lasts, after, error_at}
use Rattle.tr101290.specs.declared.continuity.ContinuityError.{ContinuityError}
use Rattle.tr101290.specs.declared.intervals.TableTiming.{TableTiming}
use Rattle.tr101290.specs.declared.intervals.TableTiming.TheVariants as timings
use Rattle.arrival.specs.Arrivals.{moment_on}
use Rattle.arrival.specs.declared.arrival.Arrival.{Arrival}
use Rattle.arrival.specs.declared.arrival.Arrival.TheVariants.{Unknown, AtRate, OnLines}
use Rattle.events.specs.declared.event.Event.{Event}
use Rattle.events.specs.declared.event.Event.TheVariants as found
use Rattle.es_events.specs.declared.view_options.ViewOptions.{ViewOptions}
use Rattle.es_events.specs.Clocks.{ClockEntries, clocks_after, no_clocks}
use Rattle.ts_report.specs.Moments.{moment_at, reference_moment}
use Rattle.ts_watch.specs.ClockEvents.{clock_events, errors_in, report_events_if}
use Rattle.packet_times.specs.ClockWindows.{ClocksState}
use Rattle.packet_times.specs.ClockWindows as clocks_by_window
use Rattle.ts_watch.specs.Choices.{ChoiceView}
use Rattle.ts_report.specs.AbsentTables.{absent_events}
use Rattle.ts_report.specs.ReferenceEvents.{is_long, known_after, reference_events}
use Rattle.ts_watch.specs.RuleEvents.{RuleState, accuracy_count, accuracy_events, judge_after, no_rule, packet_events, place_at, with_judge}
use Rattle.ts_watch.specs.RuleEvents as rules
use Rattle.ts_report.specs.StoppedClocks.{stops}
use Rattle.ts_report.specs.StoppedPids.{stopped_pids}
use Rattle.ts_watch.specs.SystemEvents.{excess_events}
use Rattle.ts_watch.specs.TableEvents.{TablesState, has_table, no_tables, table_events}
use Rattle.ts_watch.specs.TableEvents as tables
use Rattle.ts_watch.specs.WindowEvents.{pid_events, window_events, window_of}

-- the number of packets, and of packets that are refused or have transport_error_indicator; the window of the last packet that is not; the packets of
-- each PID; the last clock reference of each, and their counts, by the rate, with the number of their errors, and by window; time stamps, scrambled
-- packets and the judge of the rate; the sections of tables; the buffers of programs' tables; the streams that are named; the names of their
-- services; and the place of the packet after the first tables
pub record SeenState : Type 0 where
  pub options : ViewOptions
  pub packets : ℕ
  pub refused : ℕ
  pub counters : Lasts
  pub window : WindowView
  pub totals : WindowView
  pub clocks : ClockEntries
  pub watches : WatchesState
  pub errors : ℕ
  pub references : ClocksState
  pub rules : RuleState
  pub tables : TablesState
  pub systems : Option (List ProgramState)
  pub named : NamedView
  pub services : NamesState
  pub known : Option ℕ

-- the measure of clock references: the rate, or the references themselves
unfoldable pub timing_of : Arrival → PcrTiming
timing_of Unknown = References
timing_of (AtRate rate) = ConstantRate rate
timing_of (OnLines lines) = References

-- the timing of references from the first packet on, if packets arrive by stamps, or not
unfoldable pub timing_for : Bool → Arrival → PcrTiming
timing_for stamps Unknown = if stamps then Stamps else References
timing_for stamps (AtRate rate) = ConstantRate rate
timing_for stamps (OnLines lines) = if stamps then Stamps else References

-- the unit of the places of sections
unfoldable pub table_timing : Arrival → TableTiming
table_timing Unknown = timings.Ticks
table_timing (AtRate rate) = timings.ConstantRate rate
table_timing (OnLines lines) = timings.Ticks

-- the rules of TR 101 290 before the first packet
abbrev pub first_rules : Arrival → RuleState
first_rules arrival = no_rule (table_timing arrival)

-- before the first packet
abbrev pub nothing_seen : Bool → ViewOptions → SeenState
nothing_seen stamps options = record {
  options = options;
  packets = 0;
  refused = 0;
  counters = [];
  window = no_packet;
  totals = no_packet;
  clocks = no_clocks;
  watches = watching.no_packet (timing_for stamps options.arrival);
  errors = 0;
  references = clocks_by_window.no_reference;
  rules = first_rules options.arrival;
  tables = no_tables (table_timing options.arrival);
  systems = None;
  named = none_taken;
  services = naming_services.none_taken;
  known = None;
}

-- the arrival of the next packets: the first known line gives the moment of the stream's first byte
unfoldable pub origin_on : Arrival → ℕ
origin_on Unknown = 0
origin_on (AtRate rate) = 0
origin_on (OnLines lines) = moment_on lines 0

unfoldable pub origin_after : Arrival → ℕ → Arrival → ℕ
origin_after Unknown origin arrival = origin_on arrival
origin_after (AtRate rate) origin arrival = origin
origin_after (OnLines lines) origin arrival = origin

abbrev pub with_arrival : ViewOptions → Arrival → ViewOptions
with_arrival options arrival = record options { arrival = arrival; origin = origin_after options.arrival options.origin arrival }

-- whether the next packets have no moment: this is an error
unfoldable pub unclocked : Arrival → ℕ → Bool
unclocked Unknown count = nat_lt 0 count
unclocked (AtRate rate) count = false
unclocked (OnLines lines) count = false

abbrev pub arriving : SeenState → Arrival → ℕ → SeenState
arriving s arrival count = record s {
  options = with_arrival s.options arrival;
  errors = min (s.errors + (if unclocked arrival count then 1 else 0)) (2 ^ 64 - 1);
}

abbrev pub unclocked_event : SeenState → ℕ → Event
unclocked_event s count = found.Unclocked (record { packet = s.packets; packets = count })

abbrev pub arrival_events : SeenState → Arrival → ℕ → List Event
arrival_events s arrival count = if unclocked arrival count then unclocked_event s count ∷ [] else []

-- a packet that can't be read, or says that it is wrong
unfoldable pub cause_of : PacketError → RefusalCause
cause_of packet_errors.Sync = causes.SyncByte
cause_of packet_errors.ReservedControl = causes.Header
cause_of packet_errors.FieldTooLong = causes.Header
cause_of packet_errors.PartTooLong = causes.Header

abbrev pub without : SeenState → SeenState
without s = record s { packets = one_more s.packets; refused = one_more s.refused }

abbrev pub refused_events : SeenState → RefusalCause → List Event
refused_events s cause = found.Refused (record { packet = s.packets; cause = cause }) ∷ []

-- a packet that can be read: its clock reference, with its errors, its time stamp and whether it is scrambled, and then it enters the buffers of
-- programs' tables and its PID is counted
abbrev pub report_on : SeenState → PacketView → Option PcrReport
report_on s packet = report_at s.watches s.packets packet

abbrev pub next_window : SeenState → ℕ
next_window s = window_of s.options s.packets

-- the counts of the window and the judge of the rate after a reference, and how many errors of accuracy count with it
abbrev pub with_accuracy : SeenState → ℕ → Option PcrReport → SeenState
with_accuracy s pid report = record s {
  references = clocks_by_window.taken s.references (next_window s) pid (reference_moment s.options s.packets) report;
  rules = with_judge s.rules (judge_after (timing_of s.options.arrival) s.rules.judge pid report);
}

abbrev pub references_on : SeenState → PacketView → ClocksState
references_on s packet =
    clocks_by_window.taken s.references (next_window s) packet.header.pid (reference_moment s.options s.packets) (report_on s packet)

abbrev pub judge_on : SeenState → PacketView → JudgeState
judge_on s packet = judge_after (timing_of s.options.arrival) s.rules.judge packet.header.pid (report_on s packet)

abbrev pub inaccurate_on : SeenState → PacketView → ℕ
inaccurate_on s packet = accuracy_count (timing_of s.options.arrival) s.rules.judge packet.header.pid (report_on s packet)

-- the reference alone, with its errors
abbrev pub with_reference : SeenState → PacketView → SeenState
with_reference s packet = record s {
  watches = watching.taken s.watches s.packets packet;
  references = references_on s packet;
  rules = with_judge s.rules (judge_on s packet);
}

abbrev pub reference_errors : SeenState → PacketView → List Event
reference_errors s packet = report_events_if packet.header.pid (report_on s packet)
    ++ accuracy_events (timing_of s.options.arrival) s.rules.judge s.packets packet.header.pid (report_on s packet)

abbrev pub with_clock : SeenState → PacketView → SeenState
with_clock s packet = record s {
  clocks = clocks_after s.clocks s.options.arrival s.packets packet;
  watches = watching.taken s.watches s.packets packet;
  references = references_on s packet;
  rules = rules.taken (with_judge s.rules (judge_on s packet)) s.options.arrival s.packets s.named packet;
  errors = min (min (s.errors + errors_in (report_on s packet)) (2 ^ 64 - 1) + inaccurate_on s packet) (2 ^ 64 - 1);
}

abbrev pub clock_errors : SeenState → PacketView → List Event
clock_errors s packet = report_events_if packet.header.pid (report_on s packet)
    ++ (accuracy_events (timing_of s.options.arrival) s.rules.judge s.packets packet.header.pid (report_on s packet)
    ++ packet_events s.rules s.options.arrival s.packets s.named packet)

abbrev pub counted : SeenState → PacketView → SeenState
counted s packet = record s {
  systems = programs.taken s.options.arrival s.packets s.named packet.header.pid s.systems;
  packets = one_more s.packets;
  window = taken s.window (next_window s) packet.header.pid (has_pcr packet.adaptation);
  totals = taken s.totals 0 packet.header.pid (has_pcr packet.adaptation);
}

-- the excesses of programs' tables that end with it
abbrev pub system_excesses : SeenState → ChoiceView → PacketView → List Event
system_excesses s choice packet =
    excess_events s.options choice s.packets (programs.excesses_at s.options.arrival s.packets s.named packet.header.pid s.systems)

-- the sections of tables in 188 bytes, and sections that begin too late
abbrev pub with_sections : SeenState → List ℕ → SeenState
with_sections s bytes = record s { tables = tables.with_packet s.options s.tables bytes }

abbrev pub section_events : SeenState → List ℕ → List Event
section_events s bytes = tables.packet_events s.options s.tables bytes

-- the continuity_counter of a packet is checked, unless the packet can't be read, or says that it is wrong
abbrev pub counted_entry : SeenState → List ℕ → PacketView → Entry
counted_entry s bytes packet = record { index = s.packets - 1; bytes = bytes; packet = packet }

unfoldable pub counter_events_by : Option ContinuityError → List Event
counter_events_by None = []
counter_events_by (Some e) = found.Continuity (record { pid = e.pid; packet = e.packet; expected = e.expected; found = e.found }) ∷ []

abbrev pub with_counter : SeenState → Entry → SeenState
with_counter s entry = record s {
  counters = after s.counters entry;
  errors = min (s.errors + (if is_some (error_at s.counters entry) then 1 else 0)) (2 ^ 64 - 1);
}

unfoldable pub with_counter_read : SeenState → List ℕ → Result PacketView PacketError → SeenState
with_counter_read s bytes (Err error) = s
with_counter_read s bytes (Ok packet) = if packet.header.transport_error_indicator then s else with_counter s (counted_entry s bytes packet)

unfoldable pub counter_events : SeenState → List ℕ → Result PacketView PacketError → List Event
counter_events s bytes (Err error) = []
counter_events s bytes (Ok packet) =
    if packet.header.transport_error_indicator then [] else counter_events_by (error_at s.counters (counted_entry s bytes packet))

-- tables in 188 bytes count from the next packet on
abbrev pub with_named : SeenState → List ℕ → SeenState
with_named s bytes = record s {
  named = naming.taken s.named bytes;
  services = naming_services.taken s.services (naming.taken s.named bytes) bytes;
  known = known_after s.known (is_some s.named.streams) (naming.taken s.named bytes) (place_at s.options.arrival s.packets);
}

-- when a window ends: each PID in it, and its clock references
abbrev pub window_ends : SeenState → List Event
window_ends s = window_events s.options s.named s.services.names s.window ++ clocks_by_window.window_events s.references s.window.number

-- more than half of the packets are read
abbrev pub is_stream : SeenState → Bool
is_stream s = not (s.packets == 0) && nat_le s.refused (s.packets / 2)

-- at the end, by the rules of TR 101 290: PIDs that have stopped, the held errors of accuracy, and scrambled packets without a CAT
abbrev pub last_rules : SeenState → List Event
last_rules s = stopped_pids s.options s.named s.tables.named s.rules.gaps s.packets ++ rules.end_events s.rules s.packets (has_table s.tables 0x01 0x01)

-- before these tables that were never whole, and tables and clock references that have stopped
unfoldable pub rule_ends : SeenState → List Event
rule_ends s = absent_events (is_stream s) s.named s.tables ++ (stops s.options s.named s.tables s.clocks s.packets ++ last_rules s)

-- the stream lasts for 5 s after its first tables
abbrev pub lasts : SeenState → Bool
lasts s = is_long s.tables.times.intervals.timing s.known (place_at s.options.arrival s.packets)

-- at the end: clock references by PID, tables, all packets by PID, PIDs that are not named or have no packet, and what rules find
unfoldable pub pid_ends : SeenState → List Event
pid_ends s = clock_events s.watches
    ++ (table_events s.tables ++ (pid_events s.totals ++ (reference_events (lasts s) s.named s.tables s.totals ++ rule_ends s)))

-- the end, with the bytes that are left after the last whole packet, and the moment of the byte after that packet
abbrev pub end_event : SeenState → ℕ → Event
end_event s left =
    found.End (record { packets = s.packets; refused = s.refused; left = left; length = moment_at s.options s.packets })
