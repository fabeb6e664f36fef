-- What the laws of this crate say of a job whose units are what a demultiplexer finds in several streams.
use Rattle.std.specs.Prelude.{◌≡◌, ◌≤◌, ℕ, ◌+◌, ◌-◌, ◌^◌, Bool, false, List, [], map, slice_get, Some, None}
use Rattle.pes_packet.specs.AccessUnits.{AccessUnit}
use Rattle.pes_packet.specs.Units.{units_of}
use Rattle.description_parts.specs.Described.{Described, DescribedStream}
use Rattle.description_parts.specs.Ranges.{IsInRange}
use Rattle.slot_plan.specs.Planned.{Planned}
use Rattle.slot_plan.specs.Conditions.{IsServing}
use Rattle.pid_findings.specs.Views.{FindingView}
use Rattle.mux_core.specs.Scheduled.{Scheduled}
use Rattle.mux_core.specs.WholeJobs.{first_refused, capacity_for, job_history, output_of}
use Rattle.es_units.specs.CarriedUnits.{wire_units}
use Rattle.laws_run.specs.PidLaws.{all_found}
use Rattle.job_programs.specs.FoundUnits.{AreMoved}
use Rattle.job_inputs.specs.JoinedInputs.{AreUnitsIn}
use Rattle.job_inputs.specs.declared.joined_inputs.Origin.{Origin}
use Rattle.laws_job.specs.Laws.{AllDue, later_by, schedule_for}

-- no unit is refused, over whatever schedule, also where DTS are made from PTS
abbrev pub JoinedAcceptedLaw : Type 0
JoinedAcceptedLaw = (made : Bool) (schedule : Scheduled) (inputs : List (List FindingView)) (origins : List Origin) (units : List (ℕ × AccessUnit)) →
    IsInRange schedule.description →
    AreUnitsIn made inputs origins schedule.description units → first_refused schedule (capacity_for units) [] units ≡ None

-- the units of a stream, which are these units of the wire, are found again on its PID, all of them and no other; their clock shows `base` at
-- moment 0 if the description's clock shows base0
abbrev pub JoinedAgainLaw : Type 0
JoinedAgainLaw = (d : Described) (p : Planned) (inputs : List (List FindingView)) (origins : List Origin) (units : List (ℕ × AccessUnit)) (n k : ℕ)
    (s : DescribedStream) (wire : List AccessUnit) (base : ℕ) →
    IsInRange d → IsServing d p → AreUnitsIn false inputs origins d units → n ≤ 2 ^ 40 → slice_get d.streams k ≡ Some s →
    AreMoved wire base (units_of k units) →
    AllDue d.rate n (units_of k units) →
    wire_units s.pid (all_found (output_of false (schedule_for d p) (job_history units n))) ≡ map (later_by (d.base0 + 2 ^ 33 - base)) wire
