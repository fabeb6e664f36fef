use Rattle.plan_maker.proofs.GivenSlots.{GivenUpTo}
use Rattle.plan_maker.proofs.free_slots.give.Given as goal

abbrev pub invariant-loop-s : goal.invariant-loop-s
invariant-loop-s l = GivenUpTo l.item l.spacing l.first l.fn.slots l.slots l.s
