use Rattle.std.proofs.Common.{◌≡◌, ◌<◌, ◌≤◌, length, map, arith, rules, ◌∙◌}
use Rattle.description_parts.specs.Tables.{table_kinds}
use Rattle.plan_checker.proofs.Counts.{few_tables}
use Rattle.plan_maker.specs.Demands.{demand_view, table_demand}
use Rattle.plan_maker.proofs.GrowingLists.{numbers_pushed, all_pushed}
use Rattle.plan_maker.proofs.DemandLists.{view_pushed, table_demand_is}
use Rattle.plan_maker.proofs.search.demand.push_tables.Goals as goal

pub overflow_cast-t : goal.overflow_cast-t
overflow_cast-t g c = record { fits = omega (arith, few_tables c.args.description.now c.keeps_ranges.ensures) }

pub loop-t-preserved : goal.loop-t-preserved
loop-t-preserved g c =
    let d = c.args.description.now in
    let p = c.args.period in
    let e = c.args.distance in
    let t = c.loop-t.t in
    let below : t < length (table_kinds d) = search rules in
    let kind : c.tables-kind.result ≡ length (table_kinds d) = search rules in
    let here : demand_view c.demand_of.result ≡ table_demand d e p t =
    table_demand_is d p t _ c.bits_per_second-rate.result c.tables-kind.result e c.table_limit-limit.result c.round_packets-packets.result
    c.distance_of-apart.result c.within.result c.demand_of.ensures c.within.ensures c.table_limit-limit.ensures c.round_packets-packets.ensures
    c.distance_of-apart.ensures (c.bits_per_second-rate.ensures.value ∙ c.rate.ensures) kind in
    rw c.in_ok-push.ensures.items
    (view_pushed c.loop-t.demands.items c.demand_of.result _ here
    ∙ numbers_pushed (table_demand d e p) (table_kinds d) _ (map demand_view c.loop-t.demands.items) t below c.loop-t.invariant)

pub returns : goal.returns
returns g c =
    let d = c.args.description.now in
    let over : length (table_kinds d) ≤ c.loop-t.t = search rules in
    all_pushed (λ t _. table_demand d c.args.distance c.args.period t) (table_kinds d) _ (map demand_view c.loop-t.demands.items) c.loop-t.t over c.loop-t.invariant
