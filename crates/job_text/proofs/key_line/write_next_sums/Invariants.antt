use Rattle.std.proofs.Common.{◌≡◌, ◌++◌, drop, string_bytes}
use Rattle.std.specs.List.{flat_map}
use Rattle.job_text.specs.KeyLines.{next_number}
use Rattle.job_text.proofs.key_line.write_next_sums.Given as goal

abbrev pub invariant-loop-sum : goal.invariant-loop-sum
invariant-loop-sum g l = string_bytes l.text ++ flat_map next_number (drop l.sum-index l.sums) ≡ string_bytes l.fn.text
    ++ flat_map next_number l.sums
