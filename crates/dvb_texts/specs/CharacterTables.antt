-- Bytes as characters by the tables of EN 300 468, annex A.
use Rattle.std.specs.Prelude.{ℕ, ◌+◌, ◌*◌, ◌-◌, ◌==◌, ◌&&◌, nat_le, nat_lt, Bool, true, false, if◌then◌else◌, List, [], ◌∷◌, map, slice_index, unwrap_or}
use Rattle.std.specs.Prelude.{Option, Some, None}
use Rattle.dvb_texts.specs.declared.character_tables.TheConstants.{ISO_6937, ISO_6937_MARKED, ISO_8859_2, ISO_8859_3, ISO_8859_4, ISO_8859_5, ISO_8859_6}
use Rattle.dvb_texts.specs.declared.character_tables.TheConstants.{ISO_8859_7, ISO_8859_8, ISO_8859_9, ISO_8859_10, ISO_8859_11, ISO_8859_13, ISO_8859_14}
use Rattle.dvb_texts.specs.declared.character_tables.TheConstants.{ISO_8859_15}

-- the replacement for a character that can't be read: U+FFFD
abbrev pub unread : ℕ
unread = 0xFFFD

-- 1. One byte a character

-- a byte of a table of 0xA0 to 0xFF: bytes below 0xA0 are ASCII and control codes
unfoldable pub table_character : List ℕ → ℕ → ℕ
table_character table b = if nat_lt b 0xA0 then b else slice_index table (b - 0xA0)

abbrev pub by_table : List ℕ → List ℕ → List ℕ
by_table table bytes = map (table_character table) bytes

-- a byte of a table that is not read: only ASCII and control codes are known
unfoldable pub unread_character : ℕ → ℕ
unread_character b = if nat_lt b 0xA0 then b else unread

-- by part 1 of ISO/IEC 8859 each byte is its character
unfoldable pub latin_character : ℕ → ℕ
latin_character b = b

-- part n of ISO/IEC 8859
unfoldable pub by_part : ℕ → List ℕ → List ℕ
by_part n bytes =
    if n == 1 then map latin_character bytes
    else (if n == 2 then by_table ISO_8859_2 bytes
    else (if n == 3 then by_table ISO_8859_3 bytes
    else (if n == 4 then by_table ISO_8859_4 bytes
    else (if n == 5 then by_table ISO_8859_5 bytes
    else (if n == 6 then by_table ISO_8859_6 bytes
    else (if n == 7 then by_table ISO_8859_7 bytes
    else (if n == 8 then by_table ISO_8859_8 bytes
    else (if n == 9 then by_table ISO_8859_9 bytes
    else (if n == 10 then by_table ISO_8859_10 bytes
    else (if n == 11 then by_table ISO_8859_11 bytes
    else (if n == 13 then by_table ISO_8859_13 bytes
    else (if n == 14 then by_table ISO_8859_14 bytes
    else (if n == 15 then by_table ISO_8859_15 bytes
    else map unread_character bytes)))))))))))))

-- 2. One byte or two

-- the character of a diacritical mark and a letter
abbrev pub is_pair : (ℕ × ℕ) × ℕ → ℕ → ℕ → Bool
is_pair p mark letter = p.0.0 == mark && p.0.1 == letter

unfoldable pub marked : List ((ℕ × ℕ) × ℕ) → ℕ → ℕ → ℕ
marked [] mark letter = unread
marked (p ∷ ps) mark letter = if is_pair p mark letter then p.1 else marked ps mark letter

-- two bytes of UTF-16: no character is in the range of surrogates
unfoldable pub wide_character : ℕ → ℕ → ℕ
wide_character high low = if nat_le 0xD8 high && nat_lt high 0xE0 then unread else high * 256 + low

-- whether a byte and the next byte are one character: UTF-16, if wide, otherwise a mark of ISO/IEC 6937
unfoldable pub is_double : Bool → ℕ → Bool
is_double wide b = if wide then true else nat_le 0xC1 b && nat_lt b 0xD0

unfoldable pub double_character : Bool → ℕ → ℕ → ℕ
double_character wide b c = if wide then wide_character b c else marked ISO_6937_MARKED b c

unfoldable pub single_character : Bool → ℕ → ℕ
single_character wide b = if wide then unread else table_character ISO_6937 b

-- ISO/IEC 10646 in two bytes each, if wide, otherwise ISO/IEC 6937
unfoldable pub in_doubles : Bool → List ℕ → List ℕ
in_doubles wide [] = []
in_doubles wide (b ∷ []) = single_character wide b ∷ []
in_doubles wide (b ∷ c ∷ rest) =
    if is_double wide b then double_character wide b c ∷ in_doubles wide rest else single_character wide b ∷ in_doubles wide (c ∷ rest)

-- the character at the front of bytes that are not empty, and the bytes after it
unfoldable pub next_character : Bool → ℕ → List ℕ → ℕ × List ℕ
next_character wide b [] = (single_character wide b, [])
next_character wide b (c ∷ rest) = if is_double wide b then (double_character wide b c, rest) else (single_character wide b, c ∷ rest)
