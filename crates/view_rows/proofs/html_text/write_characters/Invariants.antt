use Rattle.std.proofs.Common.{◌≡◌, ◌++◌, drop, string_bytes}
use Rattle.std.specs.Prelude.{flat_map}
use Rattle.view_rows.specs.HtmlTexts.{page_character}
use Rattle.view_rows.proofs.html_text.write_characters.Given as goal

abbrev pub invariant-loop-character : goal.invariant-loop-character
invariant-loop-character l =
    string_bytes l.text ++ flat_map page_character (drop l.character-index l.characters) ≡ string_bytes l.fn.text ++ flat_map page_character l.characters
