use Rattle.std.proofs.Common.{◌≡◌, ◌++◌, map, take}
use Rattle.description_parts.proofs.consistency.push_pmt_pids.Given as goal

abbrev pub invariant-loop-program : goal.invariant-loop-program
invariant-loop-program l = l.pids.items ≡ l.initial.pids.items ++ map (λ part. part.pmt_pid) (take l.program-index l.programs)
