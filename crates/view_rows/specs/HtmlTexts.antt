-- A text as text of a page.
use Rattle.std.specs.Prelude.{ℕ, ◌==◌, if◌then◌else◌, List, codes, flat_map}
use Rattle.std.specs.Char.{encode_utf8}
use Rattle.std.specs.Str.{chars}

-- a character that says something else in HTML is written as a reference
unfoldable pub page_character : ℕ → List ℕ
page_character c =
    if c == 38 then codes "&amp;"
    else (if c == 60 then codes "&lt;"
    else (if c == 62 then codes "&gt;"
    else (if c == 34 then codes "&quot;"
    else (if c == 39 then codes "&#39;" else encode_utf8 c))))

abbrev pub html_text : List ℕ → List ℕ
html_text text = flat_map page_character (chars text)
