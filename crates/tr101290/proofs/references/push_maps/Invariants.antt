use Rattle.std.proofs.Common.{◌≡◌, ◌++◌, map, drop}
use Rattle.tr101290.proofs.references.push_maps.Given as goal

abbrev pub invariant-loop-program : goal.invariant-loop-program
invariant-loop-program l = l.pids.items ++ map (λ p. p.pid) (drop l.program-index l.programs) ≡ l.initial.pids.items ++ map (λ p. p.pid) l.programs
