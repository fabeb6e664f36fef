use Rattle.std.proofs.Common.{◌≡◌, ◌++◌, take, map}
use Rattle.slot_plan.specs.Numbered.{numbered}
use Rattle.plan_maker.specs.Demands.{demand_view, clock_demand}
use Rattle.plan_maker.proofs.search.demand.push_pcrs.Given as goal

abbrev pub invariant-loop-i : goal.invariant-loop-i
invariant-loop-i g l = map demand_view l.demands.items
    ≡ map demand_view l.initial.demands.items ++ numbered (clock_demand l.description l.period) 0 (take l.i l.description.programs)
