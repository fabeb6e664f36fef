use Rattle.std.proofs.Common.{◌≡◌, ◌++◌, drop, string_bytes}
use Rattle.job_run.specs.GapLines.{gap_lines}
use Rattle.job_run.proofs.gap_lines.push_gaps.Given as goal

abbrev pub invariant-loop-gap : goal.invariant-loop-gap
invariant-loop-gap l =
    string_bytes l.text ++ gap_lines l.input (drop l.gap-index l.gaps) ≡ string_bytes l.fn.text ++ gap_lines l.fn.input l.fn.gaps
