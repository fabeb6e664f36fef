use Rattle.std.proofs.Common.{◌≡◌, ◌++◌, drop, string_bytes}
use Rattle.std.specs.Prelude.{flat_map}
use Rattle.event_lines.specs.ReportLines.{escaped}
use Rattle.event_lines.proofs.lines.write_each_escaped.Given as goal

abbrev pub invariant-loop-character : goal.invariant-loop-character
invariant-loop-character l =
    string_bytes l.text ++ flat_map escaped (drop l.character-index l.characters) ≡ string_bytes l.fn.text ++ flat_map escaped l.characters
