use Rattle.std.proofs.Common.{◌≡◌, ◌++◌, map, drop}
use Rattle.job_programs.specs.declared.warning.Warning.TheVariants.{Table}
use Rattle.job_programs.proofs.warnings.push_table_warnings.Given as goal

abbrev pub invariant-loop-left_out : goal.invariant-loop-left_out
invariant-loop-left_out l = l.warnings.items ++ map Table (drop l.left_out-index l.found) ≡ l.initial.warnings.items ++ map Table l.found
