use Rattle.std.proofs.Common.{◌≡◌, ◌++◌, drop, map}
use Rattle.job_programs.specs.declared.warning.Warning.TheVariants.{Units}
use Rattle.job_programs.proofs.warnings.push_unit_warnings.Given as goal

abbrev pub invariant-loop-warning : goal.invariant-loop-warning
invariant-loop-warning l =
    l.fn.warnings.items ++ map (Units l.pid) l.found
    ≡ l.warnings.items ++ map (Units l.pid) (drop l.warning-index l.found)
