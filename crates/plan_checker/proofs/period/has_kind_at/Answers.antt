use Rattle.std.proofs.Common.{◌∙◌, ap}
use Rattle.std.proofs.lemmas.List.{get_or_default}
use Rattle.slot_plan.specs.declared.slot.Slot.TheVariants.{Null}
use Rattle.plan_checker.specs.OwnWalks.{has_kind}
use Rattle.plan_checker.proofs.period.has_kind_at.Goals as goal

pub returns : goal.returns
returns c = c.has_kind.ensures ∙ ap (has_kind c.args.item) (get_or_default c.args.slots.now c.args.at _ Null c.requires)
