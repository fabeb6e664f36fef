use Rattle.std.proofs.Common.{◌≡◌, ◌++◌, map, drop}
use Rattle.job_programs.specs.declared.warning.Warning.TheVariants.{Information}
use Rattle.job_programs.proofs.job_events.push_all.Given as goal

abbrev pub invariant-loop-warning : goal.invariant-loop-warning
invariant-loop-warning l = l.warnings.items ++ map Information (drop l.warning-index l.found) ≡ l.initial.warnings.items ++ map Information l.found
