-- PIDs of video and audio that stop before the end of the input (ETSI TR 101 290, 5.2.1, 1.6 PID_error): the event of a packet that would come too late
-- there.
use Rattle.std.specs.Prelude.{ℕ, List, [], filter, Option, Some, None}
use Rattle.arrival.specs.declared.arrival.Arrival.{Arrival}
use Rattle.arrival.specs.declared.arrival.Arrival.TheVariants.{Unknown, AtRate, OnLines}
use Rattle.ts_tables.specs.NamedStreams.{NamedView}
use Rattle.events.specs.declared.event.ClockFault.{ClockFault}
use Rattle.events.specs.declared.event.Event.{Event}
use Rattle.es_events.specs.declared.view_options.ViewOptions.{ViewOptions}
use Rattle.packet_times.specs.Gaps.{GapState, stopped}
use Rattle.packet_times.specs.GapEvents.{gap_events}
use Rattle.ts_report.specs.ReferenceEvents.{is_named}
use Rattle.ts_watch.specs.RuleEvents.{place_at}
use Rattle.ts_watch.specs.TableNames.{NamesState, oldest}

-- the longest time that is no fault, in seconds: on lines a second more, because packets after the last reference, which may be a second before the end,
-- may come at another rate than those before it
unfoldable pub longest_seconds : Arrival → ℕ
longest_seconds Unknown = 6
longest_seconds (AtRate rate) = 5
longest_seconds (OnLines lines) = 6

-- the pauses of PIDs that the section of a number, or a later one, names
abbrev pub stops_since : NamesState → ℕ → List ClockFault → List ClockFault
stops_since names section pauses = filter (λ pause. is_named names section pause.pid) pauses

-- the pauses of PIDs that a table in force may name
abbrev pub stops_at : ViewOptions → NamesState → GapState → ℕ → ℕ → List ClockFault
stops_at options names gaps packets place = stops_since names (oldest names) (stopped gaps (longest_seconds options.arrival) packets place)

-- none if the end has no place: no line of arrival is known
unfoldable pub stopped_pids_by : ViewOptions → NamedView → NamesState → GapState → ℕ → Option ℕ → List Event
stopped_pids_by options named names gaps packets None = []
stopped_pids_by options named names gaps packets (Some place) =
    gap_events named (stops_at options names gaps packets place)

-- at the end of the input, after a number of packets
abbrev pub stopped_pids : ViewOptions → NamedView → NamesState → GapState → ℕ → List Event
stopped_pids options named names gaps packets = stopped_pids_by options named names gaps packets (place_at options.arrival packets)
