use Rattle.std.proofs.Common.{◌+◌, ◌≤◌, ◌^◌, length}
use Rattle.mux_core.specs.Histories.{empty_history}
use Rattle.mux_core.specs.MuxStates.{Represents}
use Rattle.mux_core.proofs.JobFeeding.{FedSoFar}
use Rattle.mux_core.proofs.multiplexing.feed_all.Given as goal

abbrev pub invariant-units : goal.invariant-units
invariant-units g l = record {
  index : l.index + length l.left.items ≤ 2 ^ 63;
  fed : Represents empty_history l.fn.mux → FedSoFar l.fn.mux l.initial.left.items l.mux l.index l.left.items;
}

abbrev pub decreases-units : goal.decreases-units
decreases-units g l = length l.left.items
