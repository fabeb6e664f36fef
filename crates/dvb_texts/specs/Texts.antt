-- Texts as service information carries them, as characters (EN 300 468, annex A).
use Rattle.std.specs.Prelude.{ℕ, ◌+◌, ◌-◌, ◌==◌, ◌&&◌, nat_le, nat_lt, not, Bool, true, false, if◌then◌else◌, List, [], ◌∷◌, ◌++◌, length, map}
use Rattle.std.specs.Char.{is_control, encode_utf8}
use Rattle.std.specs.List.{filter, list_any}
use Rattle.std.specs.Str.{is_utf8, chars}
use Rattle.dvb_tables.specs.CharacterCoding.{text_bytes}
use Rattle.dvb_texts.specs.CharacterTables.{unread, unread_character, by_part, in_doubles}

-- 1. Characters

-- the characters of UTF-8, if all bytes are UTF-8
unfoldable pub by_utf8 : List ℕ → List ℕ
by_utf8 bytes = if is_utf8 bytes then chars bytes else map unread_character bytes

-- a text that names no table: UTF-8 if all bytes are UTF-8, as texts are also written; otherwise the default table, ISO/IEC 6937
unfoldable pub by_default_table : List ℕ → List ℕ
by_default_table bytes = if is_utf8 bytes then chars bytes else in_doubles false bytes

-- after 0x10 two bytes say a part of ISO/IEC 8859
unfoldable pub by_named_part : List ℕ → List ℕ
by_named_part (first ∷ part ∷ bytes) = if first == 0 then by_part part bytes else map unread_character bytes
by_named_part bytes = map unread_character bytes

-- after a first byte that names a table (table A.3): 0x15 UTF-8, 0x11 ISO/IEC 10646, 1 to 11 the parts 5 to 15 of ISO/IEC 8859, without a part 12
unfoldable pub by_selected_table : ℕ → List ℕ → List ℕ
by_selected_table selector bytes =
    if selector == 0x15 then by_utf8 bytes
    else (if selector == 0x11 then in_doubles true bytes
    else (if selector == 0x10 then by_named_part bytes
    else (if nat_le 1 selector && nat_le selector 11 then by_part (selector + 4) bytes
    else map unread_character bytes)))

-- the characters of a coded text
unfoldable pub read_characters : List ℕ → List ℕ
read_characters [] = []
read_characters (b ∷ bytes) = if nat_lt b 0x20 then by_selected_table b bytes else by_default_table (b ∷ bytes)

-- a control code of two bytes, 0xE080 to 0xE09F, becomes the code of one byte, and a character that can't be read a question mark
unfoldable pub shown_character : ℕ → ℕ
shown_character c = if nat_le 0xE080 c && nat_lt c 0xE0A0 then c - 0xE000 else (if c == unread then 0x3F else c)

unfoldable pub characters : List ℕ → List ℕ
characters bytes = map shown_character (read_characters bytes)

-- a character of a text can't be read
unfoldable pub has_unread : List ℕ → Bool
has_unread bytes = list_any (λ c. c == unread) (read_characters bytes)

-- the characters that are no control characters
abbrev pub printable : List ℕ → List ℕ
printable cs = filter (λ c. not (is_control c)) cs

-- 2. The first characters that fit

-- a text of UTF-8 bytes has at most this number of bytes as it is written
unfoldable pub fits : ℕ → List ℕ → Bool
fits max_bytes text = nat_le (length (text_bytes text)) max_bytes

-- a text and as many of the characters after it as fit with it
unfoldable pub fitting : ℕ → List ℕ → List ℕ → List ℕ
fitting max_bytes text [] = text
fitting max_bytes text (c ∷ cs) = if fits max_bytes (text ++ encode_utf8 c) then fitting max_bytes (text ++ encode_utf8 c) cs else text

-- the UTF-8 bytes of the characters, up to the first that does not fit
unfoldable pub decode_text : ℕ → List ℕ → List ℕ
decode_text max_bytes bytes = fitting max_bytes [] (printable (characters bytes))
