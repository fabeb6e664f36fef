use Rattle.page_curves.proofs.Neighbours.{Joins}
use Rattle.page_curves.proofs.slots.join_neighbours.Given as goal

abbrev pub invariant-loop-slot : goal.invariant-loop-slot
invariant-loop-slot l = Joins l.slots.items l.fn.slots.items l.slot
