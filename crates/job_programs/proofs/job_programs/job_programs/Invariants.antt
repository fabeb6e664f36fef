use Rattle.std.proofs.Common.{◌≡◌, ◌++◌}
use Rattle.job_programs.specs.JobPrograms.{job_programs, all_program_warnings}
use Rattle.job_programs.proofs.job_programs.job_programs.Given as goal

abbrev pub invariant-loop-program : goal.invariant-loop-program
invariant-loop-program l =
    (goal.iterator-loop-program).can_next l.program-iterator ×
    (goal.iterator-loop-program).is_finite l.program-iterator ×
    (job_programs l.streams l.fn.found.items l.fn.assigned.items ≡ l.programs.items ++ job_programs l.streams l.program-iterator.rest.items l.left) ×
    (l.fn.warnings.items ++ all_program_warnings l.streams l.fn.found.items l.fn.assigned.items
    ≡ l.warnings.items ++ all_program_warnings l.streams l.program-iterator.rest.items l.left)
