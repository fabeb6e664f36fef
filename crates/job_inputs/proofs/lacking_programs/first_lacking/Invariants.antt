use Rattle.std.proofs.Common.{◌≡◌, drop}
use Rattle.job_inputs.specs.LackingPrograms.{first_lacking}
use Rattle.job_inputs.proofs.lacking_programs.first_lacking.Given as goal

abbrev pub invariant-loop-warning : goal.invariant-loop-warning
invariant-loop-warning l = first_lacking l.streams l.warnings ≡ first_lacking l.streams (drop l.warning-index l.warnings)
