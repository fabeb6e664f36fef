use Rattle.slot_plan.proofs.PeriodLinks.{LinksFrom}
use Rattle.slot_plan.proofs.links.links_of.Given as goal

abbrev pub invariant-loop-back : goal.invariant-loop-back
invariant-loop-back g l = LinksFrom l.slots l.links.items l.first l.back
