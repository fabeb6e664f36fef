-- What the laws of this crate say: of a job whose units are what a demultiplexer finds in a stream.
use Rattle.std.specs.Prelude.{◌≡◌, ◌≤◌, ◌<◌, ℕ, ◌+◌, ◌-◌, ◌*◌, ◌^◌, Bool, false, List, [], map, slice_get, Some, None, All}
use Rattle.pes_packet.specs.AccessUnits.{AccessUnit}
use Rattle.pes_packet.specs.Units.{units_of}
use Rattle.pes_packet.specs.Encoding.{on_wire}
use Rattle.description_parts.specs.Described.{Described, DescribedStream}
use Rattle.description_parts.specs.Ranges.{IsInRange}
use Rattle.slot_plan.specs.Planned.{Planned}
use Rattle.slot_plan.specs.Conditions.{IsServing}
use Rattle.pid_findings.specs.Views.{FindingView}
use Rattle.unit_timing.specs.declared.framing.FrameDeclaration.{FrameDeclaration}
use Rattle.unit_timing.specs.declared.multiplexing_buffer.MultiplexingBuffer.{MultiplexingBuffer}
use Rattle.mux_core.specs.Scheduled.{Scheduled}
use Rattle.mux_core.specs.Headline.{Headline, VideoKept}
use Rattle.mux_core.specs.FramesKept.{FramesKept}
use Rattle.mux_core.specs.WholeJobs.{plan_schedule, first_refused, capacity_for, job_history, output_of}
use Rattle.laws_run.specs.GivenBack.{GivenBack}
use Rattle.laws_run.specs.Clean.{IsClean}
use Rattle.es_units.specs.CarriedUnits.{wire_units, apart_wire_units}
use Rattle.clock27.specs.Units.{slot_units_at_1bps}
use Rattle.laws_run.specs.PidLaws.{all_found}
use Rattle.job_programs.specs.FoundUnits.{AreMoved, KeepDts}
use Rattle.stream_jobs.specs.Jobs.{AreUnits}

-- ---- going in

-- no unit is refused, over whatever schedule, also where DTS are made from PTS
abbrev pub AcceptedLaw : Type 0
AcceptedLaw = (made : Bool) (schedule : Scheduled) (findings : List FindingView) (units : List (ℕ × AccessUnit)) → IsInRange schedule.description →
    AreUnits made findings schedule.description units → first_refused schedule (capacity_for units) [] units ≡ None

-- ---- coming out

-- units at moments of a run are these units of the wire: on a clock that shows `base` at moment 0 their stamps are the same, and
-- their marks and bytes are
pub record AreTheSame (wire : List AccessUnit) (base : ℕ) (us : List AccessUnit) : Type 0 where
  pub dts : map (λ u. on_wire (u.dts + base)) us ≡ map (λ u. on_wire u.dts) wire
  pub pts : map (λ u. on_wire (u.pts + base)) us ≡ map (λ u. on_wire u.pts) wire
  pub marks : map (λ u. u.marks) us ≡ map (λ u. u.marks) wire
  pub bytes : map (λ u. u.bytes) us ≡ map (λ u. u.bytes) wire

-- by one constant
pub record AreThose (wire us : List AccessUnit) : Type 0 where
  pub base : ℕ
  pub range : base < 2 ^ 33
  pub same : AreTheSame wire base us

-- what the bytes of a job keep
pub record RoundTrip (schedule : Scheduled) (findings : List FindingView) (units : List (ℕ × AccessUnit)) (n : ℕ) (bytes : List ℕ) : Type 0 where
  -- the units of each stream that keeps its DTS are the units found on its PID, in a data stream with distinct DTS
  pub same : (k : ℕ) (s : DescribedStream) → slice_get schedule.description.streams k ≡ Some s → KeepDts s.pid findings →
      AreThose (apart_wire_units s.pid findings) (units_of k units)
  -- the bytes give them back: each unit that was sent whole with its stamps on the wire and its bytes
  pub given_back : GivenBack schedule (λ k. units_of k units) n bytes
  -- nothing is wrong with them
  pub clean : IsClean schedule bytes
  -- each unit is in time, and no buffer overflows
  pub kept : Headline schedule (λ k. units_of k units) n bytes
  -- if a stream has a multiplexing buffer and an elementary stream buffer, neither overflows, and each due unit is whole in the elementary stream
  -- buffer by its DTS
  pub video : (k : ℕ) (s : DescribedStream) (b : MultiplexingBuffer) → slice_get schedule.description.streams k ≡ Some s → s.multiplexing ≡ Some b →
      VideoKept schedule s b (units_of k units) n bytes
  -- the main buffer does not overflow either if a unit has several access units, and each is removed at its own decoding time
  pub frames : (k : ℕ) (s : DescribedStream) (f : FrameDeclaration) → slice_get schedule.description.streams k ≡ Some s → s.framing ≡ Some f →
      FramesKept schedule s f (units_of k units) bytes

-- over a plan that serves the description
abbrev pub schedule_for : Described → Planned → Scheduled
schedule_for d p = plan_schedule (record { description = d; plan = p })

abbrev pub CarriedLaw : Type 0
CarriedLaw = (d : Described) (p : Planned) (findings : List FindingView) (units : List (ℕ × AccessUnit)) (n : ℕ) → IsInRange d → IsServing d p →
    AreUnits false findings d units →
    n ≤ 2 ^ 40 → RoundTrip (schedule_for d p) findings units n (output_of false (schedule_for d p) (job_history units n))

-- ---- found again

-- a unit of the wire with stamps that are later by this time, modulo 2^33
abbrev pub later_by : ℕ → AccessUnit → AccessUnit
later_by time u = record { dts = on_wire (u.dts + time); pts = on_wire (u.pts + time); marks = u.marks; bytes = u.bytes }

-- a run of n slots ends no earlier than the DTS of each of these units
abbrev pub AllDue : ℕ → ℕ → List AccessUnit → Type 0
AllDue rate n us = All (λ u. u.dts * rate ≤ n * slot_units_at_1bps) us

-- the units of a stream are found again, all of them and no other; their clock shows `base` at moment 0 if the description's clock shows base0.
-- If no two successive units of a data stream are due at one moment, they are exactly the units on the wire (es_units `ApartStay`); otherwise
-- all but DTS is the same (`ApartKeep`), and in a row with one DTS each unit is decoded before the next (`RowRises`)
abbrev pub FoundAgainLaw : Type 0
FoundAgainLaw = (d : Described) (p : Planned) (findings : List FindingView) (units : List (ℕ × AccessUnit)) (n k : ℕ) (s : DescribedStream) (base : ℕ) →
    IsInRange d → IsServing d p → AreUnits false findings d units → n ≤ 2 ^ 40 → slice_get d.streams k ≡ Some s →
    AreMoved (apart_wire_units s.pid findings) base (units_of k units) → AllDue d.rate n (units_of k units) →
    wire_units s.pid (all_found (output_of false (schedule_for d p) (job_history units n))) ≡ map (later_by (d.base0 + 2 ^ 33 - base))
    (apart_wire_units s.pid findings)

-- if no two units in a row that were found have one DTS, they are found again as they are
abbrev pub OwnAgainLaw : Type 0
OwnAgainLaw = (d : Described) (p : Planned) (findings : List FindingView) (units : List (ℕ × AccessUnit)) (n k : ℕ) (s : DescribedStream) (base : ℕ) →
    IsInRange d → IsServing d p → AreUnits false findings d units → n ≤ 2 ^ 40 → slice_get d.streams k ≡ Some s →
    AreMoved (wire_units s.pid findings) base (units_of k units) → AllDue d.rate n (units_of k units) →
    wire_units s.pid (all_found (output_of false (schedule_for d p) (job_history units n))) ≡
    map (later_by (d.base0 + 2 ^ 33 - base)) (wire_units s.pid findings)

-- stamps of 33 bits
abbrev pub IsOnWire : AccessUnit → Type 0
IsOnWire u = (u.dts < 2 ^ 33) × (u.pts < 2 ^ 33)

-- if both clocks show the same, the units have the same stamps
abbrev pub SameAgainLaw : Type 0
SameAgainLaw = (d : Described) (p : Planned) (findings : List FindingView) (units : List (ℕ × AccessUnit)) (n k : ℕ) (s : DescribedStream) →
    IsInRange d → IsServing d p → AreUnits false findings d units → n ≤ 2 ^ 40 → slice_get d.streams k ≡ Some s →
    AreMoved (apart_wire_units s.pid findings) d.base0 (units_of k units) → AllDue d.rate n (units_of k units) →
    All IsOnWire (apart_wire_units s.pid findings) →
    wire_units s.pid (all_found (output_of false (schedule_for d p) (job_history units n))) ≡ apart_wire_units s.pid findings
