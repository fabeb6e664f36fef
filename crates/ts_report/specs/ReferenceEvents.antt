-- PIDs that no table names, and named PIDs without a packet (ETSI TR 101 290, 5.2.1, 1.6 PID_error; 5.2.3, 3.4 Unreferenced_PID).
use Rattle.std.specs.Prelude.{ℕ, ◌-◌, ◌||◌, not, is_some, nat_le, Bool, true, if◌then◌else◌, List, [], ◌∷◌, ◌++◌, filter, map, flat_map, Option, Some, None}
use Rattle.tr101290.specs.Windows.{WindowView}
use Rattle.tr101290.specs.declared.pid_windows.PidCounts.{PidCounts}
use Rattle.ts_tables.specs.NamedStreams.{NamedView}
use Rattle.tr101290.specs.References.{referenced_pids}
use Rattle.tr101290.specs.Intervals.{time_between}
use Rattle.tr101290.specs.Packets.{missing_pids, unreferenced_pids}
use Rattle.tr101290.specs.declared.intervals.TableTiming.{TableTiming}
use Rattle.events.specs.declared.event.Event.{Event}
use Rattle.events.specs.declared.event.Event.TheVariants.{Unreferenced, Missing}
use Rattle.packet_times.specs.declared.gaps.TheConstants.{LONGEST_GAP}
use Rattle.ts_watch.specs.TableEvents.{TablesState}
use Rattle.ts_watch.specs.TableNames.{NamesState, has_name, is_since, oldest}

-- a PID that the first tables do not name, unless a section names it: a CAT, a PAT with a network_PID, a later version of a table
abbrev pub unreferenced_event : NamesState → ℕ → List Event
unreferenced_event names pid = if has_name names pid then [] else Unreferenced pid ∷ []

abbrev pub unreferenced_events : NamesState → List ℕ → List Event
unreferenced_events names pids = flat_map (unreferenced_event names) pids

abbrev pub missing_events : List ℕ → List Event
missing_events pids = map (λ pid. Missing pid) pids

-- a table in force may name a PID: a section names it since the one of these tables that came longest ago
abbrev pub is_named : NamesState → ℕ → ℕ → Bool
is_named names section pid = is_since names.pids section pid

abbrev pub is_expected : NamesState → ℕ → Bool
is_expected names pid = is_named names (oldest names) pid

-- the PIDs that are expected, once the stream has gone on for long enough
abbrev pub expected_pids : Bool → NamesState → List ℕ → List ℕ
expected_pids long names pids = if long then filter (is_expected names) pids else []

-- events for PIDs with packets that no table names, and for expected PIDs without packets that the first tables name; none before these are known
unfoldable pub events_by : List (ℕ × PidCounts) → Bool → NamesState → Option (List ℕ) → List Event
events_by entries long names None = []
events_by entries long names (Some referenced) =
    unreferenced_events names (unreferenced_pids referenced entries)
    ++ missing_events (expected_pids long names (missing_pids entries [] referenced))

-- the place after the first tables: where the next packet comes when they become known; `before`: they were known before
abbrev pub known_after : Option ℕ → Bool → NamedView → Option ℕ → Option ℕ
known_after known before named next = if before || not (is_some named.streams) then known else next

-- a stream lasts for 5 s after a place, or one of both places is not known
unfoldable pub is_long : TableTiming → Option ℕ → Option ℕ → Bool
is_long timing None end = true
is_long timing (Some begin) None = true
is_long timing (Some begin) (Some end) = nat_le LONGEST_GAP (time_between timing (end - begin))

-- `long`: the stream lasts for 5 s after the first tables
abbrev pub reference_events : Bool → NamedView → TablesState → WindowView → List Event
reference_events long named tables totals = events_by totals.counts long tables.named (referenced_pids named)
