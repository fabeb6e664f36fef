-- A plan that serves a description, and the plan that may follow it.
use Rattle.slot_plan.specs.Planned.{Planned}
use Rattle.plan_checker.specs.Served.{Served}

-- a checked switch as contracts see it
pub record Followed : Type 0 where
  pub first : Served
  pub second : Planned
