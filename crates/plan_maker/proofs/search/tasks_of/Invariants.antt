use Rattle.std.proofs.Common.{◌≡◌, map}
use Rattle.plan_maker.specs.Demands.{demand_view}
use Rattle.plan_maker.specs.Searches.{tasks_from}
use Rattle.plan_maker.proofs.SearchedSlots.{after, others_from}
use Rattle.plan_maker.proofs.search.tasks_of.Given as goal

abbrev pub invariant-loop-i : goal.invariant-loop-i
invariant-loop-i g l = tasks_from l.period 0 (map demand_view l.demands) ≡ after l.tasks.items (others_from l.period l.i l.demands)
