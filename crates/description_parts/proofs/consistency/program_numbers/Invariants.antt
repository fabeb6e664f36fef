use Rattle.std.proofs.Common.{◌≡◌, map, take}
use Rattle.description_parts.proofs.consistency.program_numbers.Given as goal

abbrev pub invariant-loop-program : goal.invariant-loop-program
invariant-loop-program l = l.numbers.items ≡ map (λ part. part.number) (take l.program-index l.programs)
