-- Plans that do not serve.
use Rattle.std.specs.Prelude.{◌≡◌, false, Option, Result, Ok, Err}
use Rattle.description_parts.specs.Described.{Described}
use Rattle.slot_plan.specs.Planned.{Planned}
use Rattle.plan_maker.specs.PlainPlan.{serves}

-- a plan that was made, or that none was, and it does not serve
abbrev pub Fails : {E : Type 0} → Described → Result (Option Planned) E → Type 0
Fails d (Ok p) = serves d p ≡ false
Fails d (Err _) = ⊥
