-- A run that meets every premise of the headline, and what it says of this run: so the headline is of something.
use Rattle.std.specs.Prelude.{◌≡◌, ℕ, List, [], ◌∷◌, None}
use Rattle.pes_packet.specs.AccessUnits.{AccessUnit}
use Rattle.pes_packet.specs.Units.{units_of}
use Rattle.description_parts.specs.Ranges.{IsInRange}
use Rattle.slot_plan.specs.Conditions.{IsServing}
use Rattle.slot_plan.specs.Promised.{Promised}
use Rattle.mux_core.specs.Scheduled.{Scheduled}
use Rattle.mux_core.specs.Histories.{bytes_of}
use Rattle.mux_core.specs.Headline.{Headline, UnitsKept}
use Rattle.mux_core.specs.MeasuredRuns.{MeasuresWell}
use Rattle.mux_core.specs.DecodedRuns.{IsDue}
use Rattle.laws_run.specs.WorkedService.{worked_service, worked_plan}
use Rattle.laws_run.specs.WorkedBytes.{worked_unit, worked_bytes}
use Rattle.mux_core.specs.WholeJobs.{plan_schedule, job_history, capacity_for, first_refused}

abbrev pub worked : Scheduled
worked = plan_schedule (record { description = worked_service; plan = worked_plan })

abbrev pub worked_units : List (ℕ × AccessUnit)
worked_units = (0, worked_unit) ∷ []

pub record WorkedRun : Type 0 where
  -- the premises: a description in its ranges, a plan that serves it, and units that are accepted, as a job and as what the stream declares
  pub in_range : IsInRange worked_service
  pub serving : IsServing worked_service worked_plan
  pub promised : Promised worked.description worked.schedule
  pub accepted : first_refused worked (capacity_for worked_units) [] worked_units ≡ None
  pub kept : UnitsKept worked (λ k. units_of k worked_units)
  -- the unit is due in the run
  pub due : IsDue worked_service 6 worked_unit
  -- the conclusion, of bytes that are computed
  pub bytes : bytes_of worked (job_history worked_units 6) ≡ worked_bytes
  pub headline : Headline worked (λ k. units_of k worked_units) 6 worked_bytes
  pub measured : MeasuresWell worked worked_units worked_bytes
