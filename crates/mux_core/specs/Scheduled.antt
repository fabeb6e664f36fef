-- The subject of multiplexing: a description, and the schedule that serves it.
use Rattle.description_parts.specs.Described.{Described}
use Rattle.slot_plan.specs.Schedule.{Schedule, single, switched}
use Rattle.mux_core.specs.declared.checked_schedule.CheckedPlans.{CheckedPlans}
use Rattle.mux_core.specs.declared.checked_schedule.CheckedPlans.TheVariants.{One, Two}

pub record Scheduled : Type 0 where
  pub description : Described
  pub schedule : Schedule

-- the schedule of a checked plan, or of a checked switch after a number of periods of its first plan
abbrev pub scheduled_of : {A : Type 0} → CheckedPlans A → Scheduled
scheduled_of (One plan) = record { description = plan.description; schedule = single plan.plan.slots }
scheduled_of (Two switch periods) = record { description = switch.first.description; schedule = switched switch.first.plan.slots periods switch.second.slots }
