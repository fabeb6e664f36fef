use Rattle.std.proofs.Common.{◌∙◌, sym}
use Rattle.plan_checker.proofs.OwnWalks.{foreign_over}
use Rattle.plan_checker.proofs.period.Period.next.Goals as goal

pub returns-then-has_kind_at : goal.returns-then-has_kind_at
returns-then-has_kind_at c =
    rw (sym c.self.view_is)
    (foreign_over c.args.item c.self.inside.slots.now c.args.at c.link_of.result (sym c.has_kind_at.ensures ∙ c.if-has_kind_at.true) c.link_of.ensures)
