-- Of what a multiplexer wrote, viewed at its rate, no unit is late, and no main buffer ever holds more than its size.
use Rattle.std.specs.Prelude.{◌≡◌, ℕ, ◌≤◌, false, List, [], ◌∷◌, count_by, flat_map, slice_get, Some, None}
use Rattle.ts_packet.specs.PidList.{cut_packets}
use Rattle.tstd.specs.PidPackets.{packets_from}
use Rattle.slot_contents.specs.Contents.{run_bytes}
use Rattle.pes_packet.specs.AccessUnits.{AccessUnit}
use Rattle.description_parts.specs.Described.{DescribedStream}
use Rattle.description_parts.specs.Ranges.{IsInRange}
use Rattle.pes_packet.specs.Units.{units_of}
use Rattle.tstd.specs.Carried.{packets_on}
use Rattle.tstd.specs.Measured.{IsStreamFullness}
use Rattle.tstd.specs.declared.fullness.StreamFullness.{StreamFullness}
use Rattle.slot_plan.specs.Promised.{Promised}
use Rattle.mux_core.specs.Scheduled.{Scheduled}
use Rattle.mux_core.specs.Headline.{UnitsKept}
use Rattle.mux_core.specs.Histories.{content_at}
use Rattle.mux_core.specs.WholeJobs.{capacity_for, first_refused, job_history, output_of}
use Rattle.laws_run.specs.TablesFirst.{DueLate}
use Rattle.arrival.specs.declared.arrival.Arrival.TheVariants.{AtRate}
use Rattle.tstd_rows.specs.Held.{empty, main_most}
use Rattle.ts_watch.specs.Choices.{RequestView}
use Rattle.es_view.specs.Entries.{EntryState, closed}
use Rattle.es_events.specs.Tallies.{is_late}
use Rattle.laws_view.specs.StreamPackets.{entered_each, most_packets}
use Rattle.laws_view.specs.StreamUnits.{all_units}
use Rattle.laws_view.specs.WholeStreams.{IsWhole, stream_packets}

-- a stream of the description that is viewed with the description's buffers, on whatever PID the view looks for its clock references
pub record IsViewedAs (d : Scheduled) (request : RequestView) (k : ℕ) (e : EntryState) : Type 0 where
  pub arrival : request.options.arrival ≡ AtRate d.description.rate
  pub stream : DescribedStream
  pub there : slice_get d.description.streams k ≡ Some stream
  pub pid : e.pid ≡ stream.pid
  pub rx : e.held.rx ≡ stream.rx
  pub size : e.held.main.size ≡ stream.main

-- a stream's buffers begin with the first packet of its PID
abbrev pub FromTheFirst : ℕ → List (List ℕ) → Type 0
FromTheFirst pid before = packets_from pid 0 before ≡ []

-- the line `main` has at most the fullness that measuring these bytes finds
abbrev pub NoMoreThanMeasured : Scheduled → List AccessUnit → List ℕ → DescribedStream → EntryState → Type 0
NoMoreThanMeasured d units bytes s e = (f : StreamFullness) → IsStreamFullness d.description.rate d.description.base0 s units (packets_on s.pid bytes) f →
    main_most e.held ≤ f.main

-- the main buffer of such a stream, with these accepted units, has no excess: the line `main` has at most its size, no excess has ended with
-- any of the stream's packets, and none is open at the end. If the buffers begin with the first packet of the PID, the line has at most the
-- fullness that measuring these bytes finds; otherwise the bytes before enter no transport buffer of the view, and later bytes leave it earlier
-- than a decoder's
pub record NoMainExcess (d : Scheduled) (request : RequestView) (units : List AccessUnit) (bytes : List ℕ) (s : DescribedStream) (e : EntryState)
    (whole : IsWhole request d.description.rate (cut_packets bytes) e) : Type 0 where
  pub most : main_most e.held ≤ e.held.main.size
  pub none_ended : flat_map (λ v. v.main)
      (entered_each (empty d.description.rate e.held.rx e.held.main.size) (AtRate d.description.rate)
      (stream_packets request e whole.begun.before (whole.begun.first ∷ whole.begun.later))) ≡ []
  pub none_under_way : e.held.main.under_way ≡ None
  pub measured : FromTheFirst e.pid whole.begun.before → NoMoreThanMeasured d units bytes s e

-- this holds for each such stream, wherever its buffers begin
abbrev pub RunMainLaw : Type 0
RunMainLaw = (d : Scheduled) (units : ℕ → List AccessUnit) (slots : ℕ) (request : RequestView) (e : EntryState) (k : ℕ) → IsInRange d.description →
    Promised d.description d.schedule →
    UnitsKept d units → slots ≤ most_packets → (viewed : IsViewedAs d request k e) →
    (whole : IsWhole request d.description.rate (cut_packets (run_bytes (content_at d units) 0 slots)) e) →
    NoMainExcess d request (units k) (run_bytes (content_at d units) 0 slots) viewed.stream e whole

-- the same for a whole job in which every unit is accepted, over one plan that keeps its conditions, or over two plans in turn
abbrev pub JobMainLaw : Type 0
JobMainLaw = (d : Scheduled) (units : List (ℕ × AccessUnit)) (slots : ℕ) (request : RequestView) (e : EntryState) (k : ℕ) → IsInRange d.description →
    Promised d.description d.schedule →
    first_refused d (capacity_for units) [] units ≡ None → slots ≤ most_packets → (viewed : IsViewedAs d request k e) →
    (whole : IsWhole request d.description.rate (cut_packets (output_of false d (job_history units slots))) e) →
    NoMainExcess d request (units_of k units) (output_of false d (job_history units slots)) viewed.stream e whole

-- buffers begin with the first packet if PAT and PMT come before it: no unit of the stream is due in the first 2 seconds of the run
abbrev pub RunFirstLaw : Type 0
RunFirstLaw = (d : Scheduled) (units : ℕ → List AccessUnit) (slots : ℕ) (request : RequestView) (e : EntryState) (k : ℕ) → IsInRange d.description →
    Promised d.description d.schedule →
    UnitsKept d units → slots ≤ most_packets → IsViewedAs d request k e →
    (whole : IsWhole request d.description.rate (cut_packets (run_bytes (content_at d units) 0 slots)) e) →
    DueLate (units k) → FromTheFirst e.pid whole.begun.before

abbrev pub JobFirstLaw : Type 0
JobFirstLaw = (d : Scheduled) (units : List (ℕ × AccessUnit)) (slots : ℕ) (request : RequestView) (e : EntryState) (k : ℕ) → IsInRange d.description →
    Promised d.description d.schedule →
    first_refused d (capacity_for units) [] units ≡ None → slots ≤ most_packets → IsViewedAs d request k e →
    (whole : IsWhole request d.description.rate (cut_packets (output_of false d (job_history units slots))) e) → DueLate (units_of k units) →
    FromTheFirst e.pid whole.begun.before

-- for these streams the line `main` has at most the measured fullness
abbrev pub RunLateUnitsLaw : Type 0
RunLateUnitsLaw = (d : Scheduled) (units : ℕ → List AccessUnit) (slots : ℕ) (request : RequestView) (e : EntryState) (k : ℕ) → IsInRange d.description →
    Promised d.description d.schedule →
    UnitsKept d units → slots ≤ most_packets → (viewed : IsViewedAs d request k e) →
    IsWhole request d.description.rate (cut_packets (run_bytes (content_at d units) 0 slots)) e →
    DueLate (units k) → NoMoreThanMeasured d (units k) (run_bytes (content_at d units) 0 slots) viewed.stream e

abbrev pub JobLateUnitsLaw : Type 0
JobLateUnitsLaw = (d : Scheduled) (units : List (ℕ × AccessUnit)) (slots : ℕ) (request : RequestView) (e : EntryState) (k : ℕ) → IsInRange d.description →
    Promised d.description d.schedule →
    first_refused d (capacity_for units) [] units ≡ None → slots ≤ most_packets → (viewed : IsViewedAs d request k e) →
    IsWhole request d.description.rate (cut_packets (output_of false d (job_history units slots))) e →
    DueLate (units_of k units) → NoMoreThanMeasured d (units_of k units) (output_of false d (job_history units slots)) viewed.stream e

-- no unit of a stream is late, neither a unit that ends with one of its packets nor the last unit, and the line `main` says so
pub record NoLateUnit (rate : ℕ) (e : EntryState) : Type 0 where
  pub none : count_by is_late (all_units rate e.held.parts) ≡ 0
  pub number : (window : ℕ) → (closed window e).late ≡ 0

-- this holds wherever its buffers begin
abbrev pub RunLateLaw : Type 0
RunLateLaw = (d : Scheduled) (units : ℕ → List AccessUnit) (slots : ℕ) (request : RequestView) (e : EntryState) (k : ℕ) → IsInRange d.description →
    Promised d.description d.schedule →
    UnitsKept d units → slots ≤ most_packets → IsViewedAs d request k e →
    IsWhole request d.description.rate (cut_packets (run_bytes (content_at d units) 0 slots)) e →
    NoLateUnit d.description.rate e

abbrev pub JobLateLaw : Type 0
JobLateLaw = (d : Scheduled) (units : List (ℕ × AccessUnit)) (slots : ℕ) (request : RequestView) (e : EntryState) (k : ℕ) → IsInRange d.description →
    Promised d.description d.schedule →
    first_refused d (capacity_for units) [] units ≡ None → slots ≤ most_packets → IsViewedAs d request k e →
    IsWhole request d.description.rate (cut_packets (output_of false d (job_history units slots))) e → NoLateUnit d.description.rate e
