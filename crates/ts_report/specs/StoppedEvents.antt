-- Tables that stop before the end of the input (ETSI TR 101 290, 5.2.1, 1.3.a and 1.5.a; 5.2.3, 3.1, 3.5, 3.6 and 3.8): the event of a section that would
-- begin too late there.
use Rattle.std.specs.Prelude.{ℕ, ◌==◌, ◌||◌, not, Bool, true, List, [], filter, map, Option, Some, None}
use Rattle.arrival.specs.declared.arrival.Arrival.{Arrival}
use Rattle.demux.specs.Stream.{ended_found}
use Rattle.events.specs.declared.event.Event.{Event}
use Rattle.es_events.specs.declared.view_options.ViewOptions.{ViewOptions}
use Rattle.tr101290.specs.StoppedTables.{stopped_tables}
use Rattle.tr101290.specs.declared.intervals.TableError.{TableError}
use Rattle.ts_watch.specs.RuleEvents.{place_at}
use Rattle.ts_watch.specs.TableEvents.{TablesState, TimesState, error_event, no_times, with_findings}
use Rattle.ts_watch.specs.TableNames.{NamesState, has_program}

-- the sections that are open at the end, as if none came before them
abbrev pub open_sections : ViewOptions → TablesState → TimesState
open_sections options t = with_findings options (no_times t.times.intervals.timing) (ended_found t.demux.packets t.demux.states)

-- the PMT of a program that the PAT in force no longer names need not come
unfoldable pub is_expected_part : NamesState → ℕ → ℕ → Option ℕ → Bool
is_expected_part names pid table_id None = true
is_expected_part names pid table_id (Some part) = not (table_id == 2) || has_program names pid part

abbrev pub is_expected : NamesState → TableError → Bool
is_expected names e = is_expected_part names e.section.pid e.section.table_id e.section.part

abbrev pub stopped_errors : ViewOptions → TablesState → ℕ → ℕ → List TableError
stopped_errors options t packets place =
    filter (is_expected t.named) (stopped_tables t.times.intervals (open_sections options t).intervals packets place)

abbrev pub errors_events : List TableError → List Event
errors_events errors = map error_event errors

-- none if the end has no place: no line of arrival is known
unfoldable pub stopped_by : ViewOptions → TablesState → ℕ → Option ℕ → List Event
stopped_by options t packets None = []
stopped_by options t packets (Some place) = errors_events (stopped_errors options t packets place)

-- at the end of the input, after a number of packets
abbrev pub stopped_events : ViewOptions → TablesState → ℕ → List Event
stopped_events options t packets = stopped_by options t packets (place_at options.arrival packets)
