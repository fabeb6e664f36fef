use Rattle.std.proofs.Common.{◌≡◌}
use Rattle.mux_core.specs.NewMux.{first_carousels}
use Rattle.mux_core.proofs.making.first_carousels.Given as goal

abbrev pub invariant-loop-table : goal.invariant-loop-table
invariant-loop-table g l = l.carousels.items ≡ first_carousels l.description 0 l.table
