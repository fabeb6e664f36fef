-- A description and the plan that serves it.
use Rattle.description_parts.specs.Described.{Described}
use Rattle.slot_plan.specs.Planned.{Planned}

-- a checked plan as contracts see it
pub record Served : Type 0 where
  pub description : Described
  pub plan : Planned
