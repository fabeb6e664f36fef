use Rattle.std.proofs.Common.{◌≡◌}
use Rattle.demux.proofs.KeptStates.{first_but}
use Rattle.demux.proofs.states.leave_out_others.Given as goal

abbrev pub invariant-loop-i : goal.invariant-loop-i
invariant-loop-i g l = l.states.entries ≡ first_but l.kept l.i l.fn.states.entries
