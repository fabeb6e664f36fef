use Rattle.std.proofs.Common.{◌∙◌, sym}
use Rattle.plan_checker.proofs.OwnMarks.{mark_at}
use Rattle.plan_checker.proofs.period.owns_at.Goals as goal

pub returns : goal.returns
returns c = c.owns.ensures ∙ sym (mark_at c.args.item c.args.slots.now c.args.at _ c.requires)
