use Rattle.plan_page.proofs.Tables.{one_more}
use Rattle.plan_page.proofs.table_items.push_tables.Goals as goal

pub loop-table-preserved : goal.loop-table-preserved
loop-table-preserved c =
    one_more c.args.description.now c.loop-table.table c.loop-table.items.items _ _ c.table_item.result
    (rw c.tables-table-end.ensures at c.loop-table-test.true) c.table_item.ensures
    c.in_ok-push.ensures.items c.loop-table.invariant
