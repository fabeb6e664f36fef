use Rattle.std.proofs.Common.{◌≡◌, ◌+◌, sum}
use Rattle.unit_queue.proofs.tally.PacketTally.exceeds_group.Given as goal

abbrev pub invariant-loop-before : goal.invariant-loop-before
invariant-loop-before g l =
    (goal.iterator-loop-before g).can_next l.before-iterator
    × (goal.iterator-loop-before g).is_finite l.before-iterator
    × (sum l.self.recent + l.packets + l.left ≡ l.most + sum l.before-iterator)
