use Rattle.std.proofs.Common.{◌≡◌, ◌++◌, map}
use Rattle.job_inputs.specs.RenumberedInputs.{program_with}
use Rattle.job_inputs.proofs.renumbered_inputs.push_programs.Given as goal

abbrev pub invariant-loop-program : goal.invariant-loop-program
invariant-loop-program l =
    (goal.iterator-loop-program).can_next l.program-iterator ×
    (goal.iterator-loop-program).is_finite l.program-iterator ×
    (l.programs.items ++ map (program_with l.numbers) l.program-iterator.rest.items ≡ l.initial.programs.items ++ map (program_with l.numbers) l.fn.found.items)
