use Rattle.std.proofs.Common.{◌≡◌}
use Rattle.demux.proofs.LeftOutStates.{first_left_out}
use Rattle.demux.proofs.states.leave_out_each.Given as goal

abbrev pub invariant-loop-i : goal.invariant-loop-i
invariant-loop-i g l = l.states.entries ≡ first_left_out l.i l.fn.states.entries
