use Rattle.std.proofs.Common.{◌≡◌, ◌<◌, length, arith, rules, ap₂, ◌∙◌}
use Rattle.description_parts.specs.Tables.{table_kinds, table_limit, round_packets}
use Rattle.plan_checker.proofs.Counts.{few_tables}
use Rattle.plan_checker.proofs.Rounds.{few_places}
use Rattle.plan_maker.specs.Loads.{recurring_load}
use Rattle.plan_maker.proofs.LoadSums.{number_more}
use Rattle.plan_maker.proofs.reason.load.tables_load.Goals as goal

pub recurring_load-total-requires-clause-packets : goal.recurring_load-total-requires-clause-packets
recurring_load-total-requires-clause-packets c = omega (arith, c.round_packets.ensures, few_places c.args.description.now c.keeps_ranges.ensures c.loop-t.t)

pub overflow_add-total : goal.overflow_add-total
overflow_add-total c =
    record {
      fits =
          omega (
            arith,
            c.loop-t.invariant.bound,
            c.recurring_load-total.ensures.bound,
            few_tables c.args.description.now c.keeps_ranges.ensures,
            c.loop-t.auto.t-end,
            c.tables-t-end.ensures,
          );
    }

pub loop-t-preserved : goal.loop-t-preserved
loop-t-preserved c =
    let d = c.args.description.now in
    let t = c.loop-t.t in
    let below : t < length (table_kinds d) = search rules in
    let here : c.recurring_load-total.result ≡ recurring_load c.args.rate (table_limit d t) (round_packets d t) =
    c.recurring_load-total.ensures.load ∙ ap₂ (recurring_load c.args.rate) c.table_limit-limit.ensures c.round_packets.ensures in
    record {
      summed = omega
          (arith, c.loop-t.invariant.summed, here, number_more (λ t. recurring_load c.args.rate (table_limit d t) (round_packets d t)) (table_kinds d) t below);
      bound = omega (arith, c.loop-t.invariant.bound, c.recurring_load-total.ensures.bound);
    }

pub returns-clause-bound : goal.returns-clause-bound
returns-clause-bound c =
    omega (arith, c.loop-t.invariant.bound, few_tables c.args.description.now c.keeps_ranges.ensures, c.loop-t.auto.t-end, c.tables-t-end.ensures)
