-- Clock references that never come, or stop before the end of the input (ETSI TR 101 290, 5.2.2, 2.3.a; ISO/IEC 13818-1, 2.7.2): the event of a
-- reference that would come too late there.
use Rattle.std.specs.Prelude.{ℕ, ◌-◌, ◌/◌, ◌==◌, ◌||◌, nat_lt, if◌then◌else◌, List, [], ◌∷◌, ◌++◌, filter, flat_map, Option, Some, None}
use Rattle.arrival.specs.Clock.{greatest_interval, longest_interval}
use Rattle.arrival.specs.declared.arrival.Arrival.{Arrival}
use Rattle.arrival.specs.declared.arrival.Arrival.TheVariants.{Unknown, AtRate, OnLines}
use Rattle.arrival.specs.declared.clock.PcrSample.{PcrSample}
use Rattle.stream_programs.specs.FreePids.{is_taken}
use Rattle.stream_programs.specs.Programs.{FoundProgramView, FoundProgramsView}
use Rattle.ts_tables.specs.NamedStreams.{NamedView}
use Rattle.tr101290.specs.Intervals.{time_between}
use Rattle.tr101290.specs.declared.intervals.TableTiming.{TableTiming}
use Rattle.events.specs.declared.event.Event.{Event}
use Rattle.events.specs.declared.event.Event.TheVariants as found
use Rattle.events.specs.declared.fault_kind.FaultKind.TheVariants as kinds
use Rattle.es_events.specs.declared.view_options.ViewOptions.{ViewOptions}
use Rattle.es_events.specs.Clocks.{ClockEntries, clock_of}
use Rattle.ts_watch.specs.RuleEvents.{place_at}
use Rattle.ts_report.specs.StoppedEvents.{stopped_events}
use Rattle.ts_watch.specs.TableEvents.{TablesState}
use Rattle.ts_watch.specs.TableNames.{NamesState, is_since, oldest}

-- 1. The PIDs of the clock references of programs, each once; 8191 says that a program has no clock reference

abbrev pub with_clock : List ℕ → ℕ → List ℕ
with_clock pids pid = if (pid == 8191) || is_taken pid pids then pids else pids ++ pid ∷ []

unfoldable pub with_clocks : List ℕ → List FoundProgramView → List ℕ
with_clocks pids [] = pids
with_clocks pids (program ∷ programs) = with_clocks (with_clock pids program.pcr_pid) programs

-- of the programs that the first tables name, once these are known
unfoldable pub clocks_in : Option FoundProgramsView → List ℕ
clocks_in None = []
clocks_in (Some found) = with_clocks [] found.programs

-- the PIDs that a PMT in force has as PCR_PID since the section of a number
abbrev pub clocks_since : NamesState → ℕ → List ℕ → List ℕ
clocks_since names section pids = filter (λ pid. is_since names.clocks section pid) pids

-- the PIDs that a PMT of a program in force may have as PCR_PID
abbrev pub expected_clocks : NamesState → Option FoundProgramsView → List ℕ
expected_clocks names found = clocks_since names (oldest names) (clocks_in found)

-- 2. The time from the last reference to the end

-- where a reference came, as sections have their places: its packet at a constant rate, its moment on lines
unfoldable pub reference_place : Arrival → PcrSample → ℕ
reference_place Unknown sample = sample.byte
reference_place (AtRate rate) sample = sample.byte / 188
reference_place (OnLines lines) sample = sample.byte

-- the first byte of the stream, if no reference came
unfoldable pub last_place : ViewOptions → Option PcrSample → ℕ
last_place options None = options.origin
last_place options (Some sample) = reference_place options.arrival sample

abbrev pub time_without : ViewOptions → TableTiming → ℕ → Option PcrSample → ℕ
time_without options timing place last = time_between timing (place - last_place options last)

-- the longest time that is no fault: on lines a second, because packets after the last reference may come at another rate than those before it
unfoldable pub longest_without : Arrival → ℕ
longest_without Unknown = longest_interval
longest_without (AtRate rate) = greatest_interval
longest_without (OnLines lines) = longest_interval

-- 3. The events, with the number of packets

abbrev pub clock_event : ℕ → ℕ → ℕ → Event
clock_event pid packets value =
    found.ClockFault kinds.PcrRepetition (record { pid = pid; packet = packets; value = value; limit = greatest_interval })

abbrev pub beyond_events : ℕ → ℕ → ℕ → ℕ → List Event
beyond_events longest pid packets value = if nat_lt longest value then clock_event pid packets value ∷ [] else []

abbrev pub clock_events : ViewOptions → TableTiming → ClockEntries → ℕ → ℕ → ℕ → List Event
clock_events options timing clocks packets place pid =
    beyond_events (longest_without options.arrival) pid packets (time_without options timing place (clock_of clocks pid))

abbrev pub clocks_events : ViewOptions → TableTiming → ClockEntries → ℕ → ℕ → List ℕ → List Event
clocks_events options timing clocks packets place pids = flat_map (clock_events options timing clocks packets place) pids

-- none if the end has no place: no line of arrival is known
unfoldable pub clocks_by : ViewOptions → TableTiming → ClockEntries → ℕ → List ℕ → Option ℕ → List Event
clocks_by options timing clocks packets pids None = []
clocks_by options timing clocks packets pids (Some place) = clocks_events options timing clocks packets place pids

-- at the end of the input, after a number of packets
abbrev pub stopped_clocks : ViewOptions → NamedView → TablesState → ClockEntries → ℕ → List Event
stopped_clocks options named t clocks packets =
    clocks_by options t.times.intervals.timing clocks packets (expected_clocks t.named named.streams) (place_at options.arrival packets)

-- of tables and of clock references
abbrev pub stops : ViewOptions → NamedView → TablesState → ClockEntries → ℕ → List Event
stops options named t clocks packets =
    stopped_events options t packets ++ stopped_clocks options named t clocks packets
