-- The events `table_repetition` of a view are the late sections of tables in the bytes (ETSI TR 101 290, 5.2.1, 1.3.a and 1.5.a; 5.2.3, 3.1, 3.5,
-- 3.6 and 3.8); a view of a multiplexer's output has none.
use Rattle.std.specs.Prelude.{◌≡◌, ℕ, ◌-◌, ◌/◌, ◌^◌, ◌<◌, ◌≤◌, ◌==◌, ◌&&◌, Bool, false, List, [], filter, length, map, Option, Some, None, All}
use Rattle.ts_packet.specs.PidList.{cut_packets, pid_list}
use Rattle.slot_contents.specs.Contents.{run_bytes}
use Rattle.pes_packet.specs.AccessUnits.{AccessUnit}
use Rattle.description_parts.specs.Described.{Described}
use Rattle.description_parts.specs.Ranges.{IsInRange}
use Rattle.description_parts.specs.Tables.{table_kind, table_pid}
use Rattle.description_parts.specs.declared.table_kind.TableKind.TheVariants.{Private}
use Rattle.slot_plan.specs.Promised.{Promised}
use Rattle.mux_core.specs.Scheduled.{Scheduled}
use Rattle.mux_core.specs.Headline.{UnitsKept}
use Rattle.mux_core.specs.Histories.{content_at}
use Rattle.mux_core.specs.WholeJobs.{capacity_for, first_refused, job_history, output_of}
use Rattle.pid_findings.specs.Findings.{findings}
use Rattle.tr101290.specs.Intervals.{no_section}
use Rattle.tr101290.specs.declared.intervals.TableError.{TableError}
use Rattle.tr101290.specs.declared.intervals.TableTiming.TheVariants.{ConstantRate}
use Rattle.laws_view.specs.Tables.{errors_from, sections_of}
use Rattle.arrival.specs.declared.arrival.Arrival.TheVariants.{AtRate}
use Rattle.events.specs.declared.event.Event.{Event}
use Rattle.events.specs.declared.event.Event.TheVariants as found
use Rattle.events.specs.declared.event.TableFault.{TableFault}
use Rattle.events.specs.declared.fault_kind.FaultKind.TheVariants as kinds
use Rattle.ts_watch.specs.Choices.{RequestView}
use Rattle.ts_watch.specs.TableEvents.{error_event}
use Rattle.ts_report.specs.StreamTables.{has_stream}
use Rattle.ts_report.specs.Views.{after_all, start}
use Rattle.laws_view.specs.ViewedSections.{sections_in}

-- the fault of an event about a section that begins too late
unfoldable pub late_of : Event → Option TableFault
late_of (found.TableFault kinds.TableRepetition fault) = Some fault
late_of _ = None

-- whether a fault is on a PID, of any table or of one table
abbrev pub is_on : ℕ → Option TableFault → Bool
is_on pid None = false
is_on pid (Some fault) = fault.pid == pid

abbrev pub is_of : ℕ → ℕ → Option TableFault → Bool
is_of pid table_id None = false
is_of pid table_id (Some fault) = (fault.pid == pid) && (fault.table == table_id)

abbrev pub is_late_on : ℕ → Event → Bool
is_late_on pid e = is_on pid (late_of e)

abbrev pub is_late : ℕ → ℕ → Event → Bool
is_late pid table_id e = is_of pid table_id (late_of e)

-- each number is a byte
abbrev pub AreBytes : List ℕ → Type 0
AreBytes bytes = All (λ b. b < 256) bytes

-- the errors of the sections of a table that are found on a PID before the end of the stream, at a rate in bits a second
abbrev pub errors_before_end : ℕ → ℕ → ℕ → List ℕ → List TableError
errors_before_end rate pid table_id bytes = errors_from (no_section (ConstantRate rate)) (sections_of pid table_id (findings (pid_list pid bytes)))

-- for any stream at a rate, these events are the errors of its sections, if the PID has no stream whose buffers are viewed
abbrev pub ViewedTablesLaw : Type 0
ViewedTablesLaw = (rate pid table_id : ℕ) (request : RequestView) (bytes : List ℕ) → request.options.arrival ≡ AtRate rate →
    length bytes / 188 < 2 ^ 64 - 1 → AreBytes bytes → (pid == 8191) ≡ false → has_stream (after_all (start request) (cut_packets bytes)).table pid ≡ false →
    filter (is_late pid table_id) (sections_in (start request) (cut_packets bytes)) ≡ map error_event (errors_before_end rate pid table_id bytes)

-- no table on a PID is ready-made
abbrev pub IsNotReadyMade : Described → ℕ → Type 0
IsNotReadyMade d pid = (t i : ℕ) → table_kind d t ≡ Some (Private i) → table_pid d t ≡ pid → ⊥

-- on each such PID a view has none of these events, whatever streams are viewed
abbrev pub NoLateEvents : Described → RequestView → List ℕ → Type 0
NoLateEvents d request bytes = (pid : ℕ) → IsNotReadyMade d pid → filter (is_late_on pid) (sections_in (start request) (cut_packets bytes)) ≡ []

-- this holds for every run over a plan that keeps its conditions, or over two plans in turn, viewed at its rate; as a byte of a unit may be any
-- number in a law, bytes are a premise
abbrev pub RunTableEventsLaw : Type 0
RunTableEventsLaw = (d : Scheduled) (units : ℕ → List AccessUnit) (slots : ℕ) (request : RequestView) → IsInRange d.description →
    Promised d.description d.schedule → UnitsKept d units → slots < 2 ^ 64 - 1 → request.options.arrival ≡ AtRate d.description.rate →
    AreBytes (run_bytes (content_at d units) 0 slots) → NoLateEvents d.description request (run_bytes (content_at d units) 0 slots)

-- and for a whole job, if every unit is accepted
abbrev pub JobTableEventsLaw : Type 0
JobTableEventsLaw = (d : Scheduled) (units : List (ℕ × AccessUnit)) (slots : ℕ) (request : RequestView) → IsInRange d.description →
    Promised d.description d.schedule → first_refused d (capacity_for units) [] units ≡ None → slots ≤ 2 ^ 40 →
    request.options.arrival ≡ AtRate d.description.rate → AreBytes (output_of false d (job_history units slots)) →
    NoLateEvents d.description request (output_of false d (job_history units slots))
