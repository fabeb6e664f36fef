use Rattle.std.proofs.Common.{◌≡◌, drop}
use Rattle.job_inputs.specs.LackingPrograms.{first_why}
use Rattle.job_inputs.proofs.nothing_carried.first_why.Given as goal

abbrev pub invariant-loop-warning : goal.invariant-loop-warning
invariant-loop-warning l = first_why l.warnings ≡ first_why (drop l.warning-index l.warnings)
