use Rattle.std.proofs.Common.{◌≡◌, ◌++◌, drop, string_bytes}
use Rattle.std.specs.List.{flat_map}
use Rattle.job_text.specs.KeyLines.{next_digits}
use Rattle.job_text.proofs.key_line.write_next_digits.Given as goal

abbrev pub invariant-loop-part : goal.invariant-loop-part
invariant-loop-part l =
    string_bytes l.text ++ flat_map (λ b. next_digits b.items) (drop l.part-index l.parts) ≡ string_bytes l.fn.text
    ++ flat_map (λ b. next_digits b.items) l.parts
