use Rattle.std.proofs.Common.{◌∙◌}
use Rattle.mux_core.proofs.making.first_carousels.Goals as goal
use Rattle.mux_core.proofs.FirstStates.{carousels_more, carousels_none}

pub loop-table-init : goal.loop-table-init
loop-table-init g c = c.new-carousels.ensures.items ∙ carousels_none c.args.description.now

pub loop-table-preserved : goal.loop-table-preserved
loop-table-preserved g c =
    c.in_ok-push.ensures.items ∙ carousels_more c.args.description.now c.loop-table.table c.loop-table.carousels.items c.first_carousel.result
    c.loop-table.invariant c.first_carousel.ensures
