use Rattle.std.proofs.Common.{◌≡◌, take}
use Rattle.job_run.specs.WarningLines.{reported_warnings}
use Rattle.job_run.proofs.warning_lines.reported_warnings.Given as goal

abbrev pub invariant-loop-warning : goal.invariant-loop-warning
invariant-loop-warning l = l.reported.items ≡ reported_warnings l.reporting (take l.warning-index l.warnings)
