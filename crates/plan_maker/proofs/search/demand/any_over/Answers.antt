use Rattle.std.proofs.Common.{◌∙◌}
use Rattle.plan_maker.proofs.DemandLists.{over_views}
use Rattle.plan_maker.proofs.search.demand.any_over.Goals as goal

pub returns : goal.returns
returns c = c.is_any_over.ensures ∙ over_views c.args.period c.args.demands.now
