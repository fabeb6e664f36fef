use Rattle.std.proofs.Common.{◌∙◌, ◌<◌, ap, arith}
use Rattle.circular_buffer.proofs.Places.{slice_get-some}
use Rattle.description_parts.specs.Described.{Described}
use Rattle.description_parts.specs.Tables.{table_kinds, table_count}
use Rattle.mux_core.specs.LineUpSteps.{made_carousel}
use Rattle.mux_core.proofs.ExchangedItems.{one_each}
use Rattle.mux_core.proofs.line_up_parts.new_carousels.Goals as goal

pub loop-table-preserved : goal.loop-table-preserved
loop-table-preserved g c =
    let d = c.args.next.now.description in
    let count = c.tables-table-end.ensures ∙ ap (λ (x : Described). table_count x) c.description.ensures.description in
    let lt : c.loop-table.table < table_count d = omega (arith, c.loop-table-test.true, count) in
    let there = slice_get-some (table_kinds d) c.loop-table.table lt in
    rw c.in_ok-push.ensures.items
    (one_each (made_carousel c.args.next.now c.args.slots) (table_kinds d) c.loop-table.carousels.items c.loop-table.table there.0 c.come_carousel.result
    c.loop-table.invariant there.1 c.come_carousel.ensures)
