use Rattle.std.proofs.Common.{◌≡◌, ◌++◌, drop, string_bytes}
use Rattle.std.specs.Prelude.{flat_map}
use Rattle.event_lines.specs.ReportLines.{field_text}
use Rattle.event_lines.proofs.lines.write_fields.Given as goal

abbrev pub invariant-loop-field : goal.invariant-loop-field
invariant-loop-field l = string_bytes l.text ++ flat_map (field_text l.json) (drop l.field-index l.fields)
    ≡ string_bytes l.fn.text ++ flat_map (field_text l.json) l.fields
