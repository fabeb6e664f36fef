use Rattle.std.proofs.Common.{◌≡◌, ◌++◌, drop, string_bytes}
use Rattle.job_run.specs.SlipLines.{slip_lines}
use Rattle.job_run.proofs.slip_lines.write_slips.Given as goal

abbrev pub invariant-loop-slip : goal.invariant-loop-slip
invariant-loop-slip l =
    string_bytes l.text ++ slip_lines (drop l.slip-index l.slips) ≡ string_bytes l.fn.text ++ slip_lines l.slips
