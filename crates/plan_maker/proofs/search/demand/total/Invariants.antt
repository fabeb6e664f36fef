use Rattle.std.proofs.Common.{◌≡◌, min, take}
use Rattle.std.specs.List.{sum_by}
use Rattle.plan_maker.specs.Bounded.{most_long}
use Rattle.plan_maker.proofs.search.demand.total.Given as goal

abbrev pub invariant-loop-demand : goal.invariant-loop-demand
invariant-loop-demand l = l.total ≡ min (sum_by (λ d. d.count) (take l.demand-index l.demands)) most_long
