use Rattle.std.proofs.Common.{◌≡◌, [], ◌∷◌, ◌++◌, take, map}
use Rattle.description_parts.specs.Tables.{table_kinds}
use Rattle.slot_plan.specs.Numbered.{numbered}
use Rattle.plan_maker.specs.Demands.{demand_view, table_demand}
use Rattle.plan_maker.proofs.search.demand.push_tables.Given as goal

abbrev pub invariant-loop-t : goal.invariant-loop-t
invariant-loop-t g l = map demand_view l.demands.items
    ≡ map demand_view l.initial.demands.items ++ numbered (λ t _. table_demand l.description l.distance l.period t ∷ []) 0 (take l.t (table_kinds l.description))
