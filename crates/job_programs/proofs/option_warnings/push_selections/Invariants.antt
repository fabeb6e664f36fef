use Rattle.std.proofs.Common.{◌≡◌, ◌++◌, drop, flat_map}
use Rattle.job_programs.specs.Warnings.{selection_warning}
use Rattle.job_programs.proofs.option_warnings.push_selections.Given as goal

abbrev pub invariant-loop-number : goal.invariant-loop-number
invariant-loop-number l = l.fn.warnings.items ++ flat_map (selection_warning l.association) l.programs ≡ l.warnings.items
    ++ flat_map (selection_warning l.association) (drop l.number-index l.programs)
