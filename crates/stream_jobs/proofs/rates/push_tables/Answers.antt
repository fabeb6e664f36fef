use Rattle.std.proofs.Common.{◌≤◌, length, rules, arith}
use Rattle.description_parts.specs.Tables.{table_count, table_kinds}
use Rattle.stream_jobs.specs.Rates.{table_recurs}
use Rattle.stream_jobs.proofs.TriedRates.{all_tables, pushed_table}
use Rattle.stream_jobs.proofs.rates.push_tables.Goals as goal

pub loop-table-preserved : goal.loop-table-preserved
loop-table-preserved c =
    rw (c.in_ok-push.ensures.items, c.table_recurs.ensures)
    (pushed_table (table_recurs c.args.description.now) _ c.loop-table.recurring.items c.loop-table.table c.loop-table.invariant)

pub returns : goal.returns
returns c =
    let d = c.args.description.now in
    let over : length (table_kinds d) ≤ c.loop-table.table = search rules in
    all_tables (table_recurs d) _ c.loop-table.recurring.items c.loop-table.table (table_count d) c.loop-table.invariant
    (omega (arith, over, c.loop-table.auto.table-end, c.tables-table-end.ensures))
