-- Why no plan was made.
use Rattle.std.specs.Prelude.{Result, Ok, Err, Option, Some, None}
use Rattle.slot_plan.specs.declared.plan.PlanError.{PlanError}

-- the error of a result that hands two things back
abbrev pub plan_refusal : {V S C : Type 0} → Result V (PlanError × S × C) → Option PlanError
plan_refusal (Ok _) = None
plan_refusal (Err e) = Some e.0
