use Rattle.std.proofs.Common.{◌≡◌, false, take}
use Rattle.std.specs.Prelude.{All}
use Rattle.plan_maker.specs.PlainPlan.{serves}
use Rattle.plan_maker.specs.Searches.{period_plan, periods}
use Rattle.plan_maker.proofs.making.searched.Given as goal

abbrev pub invariant-loop-period : goal.invariant-loop-period
invariant-loop-period g l = record {
  same : l.description ≡ l.fn.description;
  none : All (λ period. serves l.fn.description (period_plan l.fn.description l.distance period) ≡ false) (take l.period-index periods);
}
