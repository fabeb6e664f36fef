-- Texts as service information carries them (EN 300 468, annex A).
use Rattle.std.specs.Prelude.{ℕ, Bool, ◌&&◌, ◌||◌, ◌==◌, nat_le, List, [], ◌∷◌, if◌then◌else◌}
use Rattle.std.specs.List.{list_all}
use Rattle.dvb_tables.specs.declared.character_coding.TextError.{TextError}
use Rattle.dvb_tables.specs.declared.character_coding.TextError.TheVariants.{TooLong}

-- an ASCII letter, a digit or a space
unfoldable pub is_plain_character : ℕ → Bool
is_plain_character b =
    b == 0x20 || (nat_le 0x30 b && nat_le b 0x39 || (nat_le 0x41 b && nat_le b 0x5A || nat_le 0x61 b && nat_le b 0x7A))

-- ASCII letters, digits and spaces alone, or nothing
unfoldable pub is_plain : List ℕ → Bool
is_plain text = list_all is_plain_character text

-- a text of UTF-8 bytes as it is written: plain in the default table, or after 0x15, which selects UTF-8
abbrev pub text_bytes : List ℕ → List ℕ
text_bytes text = if is_plain text then text else 0x15 ∷ text

-- the text that coded bytes are: UTF-8 after 0x15, otherwise the bytes as they are
unfoldable pub decoded : List ℕ → List ℕ
decoded [] = []
decoded (b ∷ bytes) = if b == 0x15 then bytes else b ∷ bytes

-- the number of the refusal
abbrev pub text_error_code : TextError → ℕ
text_error_code TooLong = 1
