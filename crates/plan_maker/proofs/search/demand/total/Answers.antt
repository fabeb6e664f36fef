use Rattle.std.proofs.Common.{◌≡◌, ℕ, ◌+◌, ◌<◌, length, take, get_or, List, arith, ap, ◌∙◌}
use Rattle.std.specs.Prelude.{min}
use Rattle.std.specs.List.{sum_by}
use Rattle.std.proofs.lemmas.List.{take_all}
use Rattle.std.proofs.lemmas.List.Sums.{sum_by_more}
use Rattle.plan_maker.specs.Bounded.{most_long}
use Rattle.plan_maker.specs.declared.search.demand.Demand.{Demand}
use Rattle.plan_maker.proofs.search.demand.total.Goals as goal

pub loop-demand-preserved : goal.loop-demand-preserved
loop-demand-preserved c =
    summed c.loop-demand.total c.saturating_add-total.result c.args.demands.now c.loop-demand.demand-index c.demand-item.result c.loop-demand-test.true
    c.demand-item.is c.saturating_add-total.ensures c.loop-demand.invariant
  where
    summed : (total next : ℕ) (ds : List Demand) (i : ℕ) (x : Demand) → i < length ds → x ≡ get_or ds i x → next ≡ min (total + x.count) most_long →
        total ≡ min (sum_by (λ d. d.count) (take i ds)) most_long → next ≡ min (sum_by (λ d. d.count) (take (i + 1) ds)) most_long
    summed total next ds i x lt at is before =
        omega (arith, is, before, ap (λ (d : Demand). d.count) at, sum_by_more (λ (d : Demand). d.count) ds i x lt)

pub returns : goal.returns
returns c =
    c.loop-demand.invariant
    ∙ ap (λ (ds : List Demand). min (sum_by (λ d. d.count) ds) most_long) (take_all c.loop-demand.demand-index c.args.demands.now c.loop-demand-test.false)
