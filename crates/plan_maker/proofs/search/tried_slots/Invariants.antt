use Rattle.std.proofs.Common.{◌≡◌, ◌-◌, map}
use Rattle.plan_maker.specs.Demands.{demand_view}
use Rattle.plan_maker.specs.Searches.{found_in}
use Rattle.plan_maker.proofs.search.tried_slots.Given as goal

abbrev pub invariant-loop : goal.invariant-loop
invariant-loop g l = found_in 12 l.period (map demand_view l.fn.demands) ≡ found_in (12 - l.counter) l.period (map demand_view l.demands)
