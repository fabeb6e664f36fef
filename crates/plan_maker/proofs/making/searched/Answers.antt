use Rattle.std.proofs.Common.{◌≡◌, ◌≤◌, ℕ, List, false, arith, refl, subst, ◌∙◌}
use Rattle.std.specs.Prelude.{All}
use Rattle.std.proofs.lemmas.List.{take_all}
use Rattle.std.proofs.lemmas.List.Elements.{All-more}
use Rattle.plan_maker.specs.PlainPlan.{serves}
use Rattle.plan_maker.specs.Searches.{period_plan, periods}
use Rattle.plan_maker.proofs.TriedPlans.{period_fails}
use Rattle.plan_maker.proofs.making.searched.Goals as goal

pub loop-period-init : goal.loop-period-init
loop-period-init g c = record { same = refl; none = λ k d lt. absurd (omega (arith, lt)) }

pub returns-in-Ok-clause-served : goal.returns-in-Ok-clause-served
returns-in-Ok-clause-served g c = c.in-Ok.ensures.served ∙ c.loop-period.invariant.same

pub returns-in-Err-Memory-default-clause-handed_back : goal.returns-in-Err-Memory-default-clause-handed_back
returns-in-Err-Memory-default-clause-handed_back g c = c.in-Err-Memory-default.ensures.handed_back ∙ c.loop-period.invariant.same

pub loop-period-preserved : goal.loop-period-preserved
loop-period-preserved g c = record {
  same = c.in-Err-NotFound-default.ensures.handed_back ∙ c.loop-period.invariant.same;
  none = All-more (λ (period : ℕ). serves c.args.description (period_plan c.args.description c.args.distance period) ≡ false) periods
      c.loop-period.period-index _ c.loop-period-test.true c.loop-period.invariant.none
      (period_fails c.args.description c.loop-period.description c.args.distance _ c.period_plan-plan.result c.loop-period.invariant.same
      c.period_plan-plan.ensures.found (c.in-Err-NotFound-default.ensures.not_found c.in-Err-NotFound-default.field-0-0-is));
}

pub returns-clause-not_found : goal.returns-clause-not_found
returns-clause-not_found g c = λ _.
    let over : 9 ≤ c.loop-period.period-index = omega (arith, c.loop-period-test.false) in
    subst (λ (tried : List ℕ). All (λ (period : ℕ). serves c.args.description (period_plan c.args.description c.args.distance period) ≡ false) tried)
    (take_all c.loop-period.period-index periods over) c.loop-period.invariant.none

pub returns-clause-handed_back : goal.returns-clause-handed_back
returns-clause-handed_back g c = c.loop-period.invariant.same
