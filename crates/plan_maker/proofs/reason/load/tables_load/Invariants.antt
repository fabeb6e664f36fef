use Rattle.std.proofs.Common.{◌≡◌, ◌*◌, ◌^◌, ◌≤◌, take}
use Rattle.description_parts.specs.Tables.{table_kinds, table_limit, round_packets}
use Rattle.plan_maker.specs.Loads.{total, recurring_load}
use Rattle.plan_maker.proofs.reason.load.tables_load.Given as goal

abbrev pub invariant-loop-t : goal.invariant-loop-t
invariant-loop-t l = record {
  summed : l.total ≡ total (λ t _. recurring_load l.rate (table_limit l.description t) (round_packets l.description t)) (take l.t (table_kinds l.description));
  bound : l.total ≤ l.t * 2 ^ 90;
}
