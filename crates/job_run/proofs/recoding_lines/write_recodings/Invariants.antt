use Rattle.std.proofs.Common.{◌≡◌, ◌++◌, drop, string_bytes}
use Rattle.job_run.specs.RecodingLines.{recoding_lines}
use Rattle.job_run.proofs.recoding_lines.write_recodings.Given as goal

abbrev pub invariant-loop-recoding : goal.invariant-loop-recoding
invariant-loop-recoding l =
    string_bytes l.text ++ recoding_lines (drop l.recoding-index l.recodings) ≡ string_bytes l.fn.text ++ recoding_lines l.fn.recodings
