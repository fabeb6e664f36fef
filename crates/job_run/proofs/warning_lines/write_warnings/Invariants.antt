use Rattle.std.proofs.Common.{◌≡◌, ◌++◌, drop, string_bytes}
use Rattle.job_run.specs.WarningLines.{lines_after, warning_lines}
use Rattle.job_run.proofs.warning_lines.write_warnings.Given as goal

abbrev pub invariant-loop-warning : goal.invariant-loop-warning
invariant-loop-warning l =
    string_bytes l.text ++ lines_after l.falling l.before (drop l.warning-index l.all) ≡ string_bytes l.fn.text ++ warning_lines l.falling l.all
