-- At a constant rate the figures in a view of a stream that carries units, such as a multiplexer's output, equal the figures that `tstd::measure`
-- finds in the same bytes.
use Rattle.std.specs.Prelude.{◌≡◌, ℕ, ◌≤◌, false, is_some, true, List, [], ◌∷◌, ◌++◌, length, slice_get, Some, None}
use Rattle.ts_packet.specs.PidList.{cut_packets, pid_list}
use Rattle.slot_contents.specs.Contents.{run_bytes}
use Rattle.pes_packet.specs.AccessUnits.{AccessUnit}
use Rattle.pes_packet.specs.Units.{units_of}
use Rattle.description_parts.specs.Described.{DescribedProgram, DescribedStream}
use Rattle.description_parts.specs.Ranges.{IsInRange}
use Rattle.laws_run.specs.TablesFirst.{DueLate}
use Rattle.tstd.specs.Carried.{packets_on}
use Rattle.tstd.specs.Measured.{IsStreamFullness}
use Rattle.tstd.specs.declared.fullness.StreamFullness.{StreamFullness}
use Rattle.slot_plan.specs.Promised.{Promised}
use Rattle.mux_core.specs.Scheduled.{Scheduled}
use Rattle.mux_core.specs.Headline.{UnitsKept}
use Rattle.mux_core.specs.Histories.{content_at}
use Rattle.mux_core.specs.WholeJobs.{capacity_for, first_refused, job_history, output_of}
use Rattle.arrival.specs.declared.arrival.Arrival.TheVariants.{AtRate}
use Rattle.tstd_rows.specs.Held.{main_most, transport_most}
use Rattle.ts_watch.specs.Choices.{RequestView}
use Rattle.es_view.specs.Entries.{EntryState}
use Rattle.laws_view.specs.StreamPackets.{known_after_all, most_packets}
use Rattle.laws_view.specs.CarriedStreams.{CarriesUnits, CutUnit, KeepsClock, cut_units}
use Rattle.laws_view.specs.ViewedRuns.{FromTheFirst, IsViewedAs}
use Rattle.laws_view.specs.WholeStreams.{IsWhole, followed, known_at_begin, nothing_known}

-- the lines `transport` and `main` say the greatest numbers of bytes that are measured
pub record AsMeasured (e : EntryState) (f : StreamFullness) : Type 0 where
  pub transport : transport_most e.held ≡ f.transport
  pub main : main_most e.held ≡ f.main

-- after these packets, a clock reference has come on the PID on which they are looked for
abbrev pub HasClock : RequestView → EntryState → List (List ℕ) → Type 0
HasClock request e before = is_some (known_after_all (followed request e) nothing_known before).clock ≡ true

-- so of each stream at a constant rate that carries units on a PID, whose buffers begin with the first packet of that PID, and with or after a
-- clock reference: before the first one no unit begins in a view, so bytes that come by then are in no main buffer
abbrev pub AsMeasuredLaw : Type 0
AsMeasuredLaw = (request : RequestView) (rate base0 : ℕ) (bytes : List ℕ) (e : EntryState) (s : DescribedStream) (cuts : List CutUnit) (f : StreamFullness) →
    request.options.arrival ≡ AtRate rate → length (cut_packets bytes) ≤ most_packets → e.pid ≡ s.pid → e.held.rx ≡ s.rx →
    (whole : IsWhole request rate (cut_packets bytes) e) →
    FromTheFirst e.pid whole.begun.before → HasClock request e (whole.begun.before ++ whole.begun.first ∷ []) →
    CarriesUnits s.stream_id base0 s.pid cuts bytes →
    KeepsClock (followed request e) (known_at_begin (followed request e) whole.begun.before) rate base0 cuts (pid_list s.pid bytes)
    (whole.begun.first ∷ whole.begun.later) →
    IsStreamFullness rate base0 s (cut_units cuts) (packets_on s.pid bytes) f → AsMeasured e f

-- so of each stream that a multiplexer wrote, which is viewed with the description's buffers
abbrev pub RunAsMeasuredLaw : Type 0
RunAsMeasuredLaw = (d : Scheduled) (units : ℕ → List AccessUnit) (slots : ℕ) (request : RequestView) (e : EntryState) (k : ℕ) → IsInRange d.description →
    Promised d.description d.schedule →
    UnitsKept d units → slots ≤ most_packets → (viewed : IsViewedAs d request k e) →
    (whole : IsWhole request d.description.rate (cut_packets (run_bytes (content_at d units) 0 slots)) e) →
    FromTheFirst e.pid whole.begun.before → HasClock request e (whole.begun.before ++ whole.begun.first ∷ []) → (f : StreamFullness) →
    IsStreamFullness d.description.rate d.description.base0 viewed.stream (units k) (packets_on viewed.stream.pid (run_bytes (content_at d units) 0 slots)) f →
    AsMeasured e f

abbrev pub JobAsMeasuredLaw : Type 0
JobAsMeasuredLaw = (d : Scheduled) (units : List (ℕ × AccessUnit)) (slots : ℕ) (request : RequestView) (e : EntryState) (k : ℕ) → IsInRange d.description →
    Promised d.description d.schedule →
    first_refused d (capacity_for units) [] units ≡ None → slots ≤ most_packets → (viewed : IsViewedAs d request k e) →
    (whole : IsWhole request d.description.rate (cut_packets (output_of false d (job_history units slots))) e) →
    FromTheFirst e.pid whole.begun.before → HasClock request e (whole.begun.before ++ whole.begun.first ∷ []) → (f : StreamFullness) →
    IsStreamFullness d.description.rate d.description.base0 viewed.stream (units_of k units)
    (packets_on viewed.stream.pid (output_of false d (job_history units slots))) f → AsMeasured e f

-- the stream's clock references are those on the PCR_PID of a program of the description
abbrev pub IsClockOf : Scheduled → EntryState → Type 0
IsClockOf d e = (i : ℕ) × (p : DescribedProgram) × (slice_get d.description.programs i ≡ Some p) × (e.clock_pid ≡ p.pcr_pid)

-- it holds for a stream without a unit that is due in the first 2 seconds of the run: tables and clock references come before its packets
abbrev pub RunLateAsMeasuredLaw : Type 0
RunLateAsMeasuredLaw = (d : Scheduled) (units : ℕ → List AccessUnit) (slots : ℕ) (request : RequestView) (e : EntryState) (k : ℕ) → IsInRange d.description →
    Promised d.description d.schedule →
    UnitsKept d units → slots ≤ most_packets → (viewed : IsViewedAs d request k e) → IsClockOf d e →
    (whole : IsWhole request d.description.rate (cut_packets (run_bytes (content_at d units) 0 slots)) e) → DueLate (units k) → (f : StreamFullness) →
    IsStreamFullness d.description.rate d.description.base0 viewed.stream (units k) (packets_on viewed.stream.pid (run_bytes (content_at d units) 0 slots)) f →
    AsMeasured e f

abbrev pub JobLateAsMeasuredLaw : Type 0
JobLateAsMeasuredLaw = (d : Scheduled) (units : List (ℕ × AccessUnit)) (slots : ℕ) (request : RequestView) (e : EntryState) (k : ℕ) → IsInRange d.description →
    Promised d.description d.schedule →
    first_refused d (capacity_for units) [] units ≡ None → slots ≤ most_packets → (viewed : IsViewedAs d request k e) → IsClockOf d e →
    (whole : IsWhole request d.description.rate (cut_packets (output_of false d (job_history units slots))) e) → DueLate (units_of k units) →
    (f : StreamFullness) →
    IsStreamFullness d.description.rate d.description.base0 viewed.stream (units_of k units)
    (packets_on viewed.stream.pid (output_of false d (job_history units slots))) f → AsMeasured e f
