use Rattle.std.proofs.Common.{◌≡◌, ◌++◌, drop, map, string_bytes}
use Rattle.job_run.specs.StreamFiles.{taken_lines}
use Rattle.job_run.proofs.files_outcome.write_taken.Given as goal

abbrev pub invariant-loop-number : goal.invariant-loop-number
invariant-loop-number l =
    string_bytes l.text ++ taken_lines (map (λ s. s.now) l.names) l.number (drop l.number l.taken)
    ≡ string_bytes l.fn.text ++ taken_lines (map (λ s. s.now) l.names) 0 l.taken
