use Rattle.std.proofs.Common.{◌∙◌, sym}
use Rattle.slot_plan.proofs.HeldConditions.{shaped}
use Rattle.plan_checker.proofs.FailingSearch.{is_missing}
use Rattle.plan_checker.proofs.checking.search_conditions.Goals as goal

pub timing-requires : goal.timing-requires
timing-requires g c = record { shaped = shaped c.args.description.now c.args.plan.now (is_missing _ (sym c.is_shaped.ensures ∙ c.if-is_shaped.true)) }
