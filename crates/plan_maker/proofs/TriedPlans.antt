-- Plans that are tried one after another.
use Rattle.std.proofs.Common.{◌≡◌, ℕ, false, Option, Result, Ok, Err, ap, sym, ◌∙◌}
use Rattle.std.specs.Prelude.{IfOk, IfErr}
use Rattle.description_parts.specs.Described.{Described}
use Rattle.slot_plan.specs.Planned.{Planned}
use Rattle.plan_maker.specs.PlainPlan.{serves}
use Rattle.plan_maker.specs.Failures.{Fails}
use Rattle.plan_maker.specs.Searches.{period_plan}
use Rattle.plan_maker.specs.declared.making.MakeError.{MakeError}
use Rattle.plan_maker.specs.declared.making.MakeError.TheVariants.{NotFound}

-- The plan of a period does not serve the description that was handed back.
pub period_fails : {E : Type 0} (d e : Described) (distance period : ℕ) (plan : Result (Option Planned) E) → e ≡ d →
    IfOk plan (λ p. p ≡ period_plan e distance period) → Fails e plan → serves d (period_plan d distance period) ≡ false
period_fails d e distance period (Ok p) same is fails =
    ap (λ (f : Described). serves f (period_plan f distance period)) (sym same) ∙ ap (serves e) (sym is) ∙ fails
period_fails d e distance period (Err x) same is fails = absurd fails

-- What is so of any refusal is so if no plan is found.
pub if_not_found : {V : Type 0} (P : Type 0) (r : Result V (MakeError × Described)) → P → IfErr r (λ x. x.0 ≡ NotFound → P)
if_not_found P (Ok v) p = tt
if_not_found P (Err x) p = λ _. p
