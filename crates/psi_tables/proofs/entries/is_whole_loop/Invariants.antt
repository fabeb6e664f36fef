use Rattle.std.proofs.Common.{◌≡◌, length, is_some}
use Rattle.psi_tables.specs.Loops.{loop_at}
use Rattle.psi_tables.proofs.entries.is_whole_loop.Given as goal

abbrev pub invariant-loop-rest : goal.invariant-loop-rest
invariant-loop-rest l = is_some (loop_at l.head_length l.rest) ≡ is_some (loop_at l.head_length l.bytes)

abbrev pub decreases-loop-rest : goal.decreases-loop-rest
decreases-loop-rest l = length l.rest
