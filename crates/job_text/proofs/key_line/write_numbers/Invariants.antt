use Rattle.std.proofs.Common.{◌≡◌, ◌++◌, drop, string_bytes}
use Rattle.std.specs.List.{flat_map}
use Rattle.job_text.specs.KeyLines.{field_line}
use Rattle.job_text.proofs.key_line.write_numbers.Given as goal

abbrev pub invariant-loop-field : goal.invariant-loop-field
invariant-loop-field g l = string_bytes l.text ++ flat_map field_line (drop l.field-index l.fields) ≡ string_bytes l.fn.text ++ flat_map field_line l.fields
