use Rattle.std.proofs.Common.{◌≡◌, true, drop}
use Rattle.job_parts.specs.Parts.{plan_offset}
use Rattle.job_parts.proofs.parts.plan_offset.Given as goal

abbrev pub invariant-loop-i : goal.invariant-loop-i
invariant-loop-i l = plan_offset l.i l.at_line (drop l.i l.bytes) ≡ plan_offset 0 true l.bytes
