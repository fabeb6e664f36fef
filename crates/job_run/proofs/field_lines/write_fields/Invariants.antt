use Rattle.std.proofs.Common.{◌≡◌, ◌++◌, drop, string_bytes}
use Rattle.job_run.specs.FieldLines.{field_lines}
use Rattle.job_run.proofs.field_lines.write_fields.Given as goal

abbrev pub invariant-loop-field : goal.invariant-loop-field
invariant-loop-field l =
    string_bytes l.text ++ field_lines (drop l.field-index l.fields) ≡ string_bytes l.fn.text ++ field_lines l.fields
