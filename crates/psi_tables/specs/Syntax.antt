-- The syntax of a section (ISO/IEC 13818-1, 2.4.4.10 and 2.4.4.11: private_section).
use Rattle.std.specs.Prelude.{◌≡◌, ℕ, ◌+◌, ◌<◌, ◌≤◌, ◌^◌, List, [], ◌∷◌, ◌++◌, length, Option, None, Some}
use Rattle.bit_fields.specs.Fields.{number, fields, bit}
use Rattle.psi_tables.specs.CheckWord.{check_word}
use Rattle.psi_tables.specs.Views.{SectionView}
use Rattle.psi_tables.specs.declared.section.LongHeader.{LongHeader}

-- the short form, section_syntax_indicator 0: three bytes and the body
pub record IsShortSection (bytes : List ℕ) (s : SectionView) : Type 0 where
  pub front : List ℕ
  pub is : bytes ≡ front ++ s.body
  pub reserved : ℕ
  pub front_length : length front ≡ 3
  pub spelled : number front ≡ fields ((8, s.header.table_id) ∷ (1, 0) ∷ (1, bit s.header.private_indicator) ∷ (2, reserved) ∷ (12, length s.body) ∷ [])
  pub table_id : s.header.table_id < 2 ^ 8
  pub two_bits : reserved < 2 ^ 2
  pub section_length : length s.body ≤ 4093

-- the long form, section_syntax_indicator 1: eight bytes, the body, and CRC_32; the check word over all of them is 0
pub record IsLongSection (bytes : List ℕ) (s : SectionView) (h : LongHeader) : Type 0 where
  pub front : List ℕ
  pub crc : List ℕ
  pub is : bytes ≡ front ++ (s.body ++ crc)
  pub reserved : ℕ
  pub reserved_after : ℕ
  pub front_length : length front ≡ 8
  pub crc_length : length crc ≡ 4
  pub spelled : number front ≡ fields ((8, s.header.table_id) ∷ (1, 1) ∷ (1, bit s.header.private_indicator) ∷ (2, reserved) ∷ (12, 9 + length s.body)
      ∷ (16, h.table_id_extension) ∷ (2, reserved_after) ∷ (5, h.version_number) ∷ (1, bit h.current_next) ∷ (8, h.section_number) ∷ (8, h.last_section_number)
      ∷ [])
  pub checked : check_word bytes ≡ 0
  pub table_id : s.header.table_id < 2 ^ 8
  pub two_bits : reserved < 2 ^ 2
  pub section_length : 9 + length s.body ≤ 4093
  pub table_id_extension : h.table_id_extension < 2 ^ 16
  pub two_bits_after : reserved_after < 2 ^ 2
  pub version_number : h.version_number < 2 ^ 5
  pub section_number : h.section_number < 2 ^ 8
  pub last_section_number : h.last_section_number < 2 ^ 8

-- a section in the form that its header has
abbrev pub HasForm : Option LongHeader → List ℕ → SectionView → Type 0
HasForm None bytes s = IsShortSection bytes s
HasForm (Some h) bytes s = IsLongSection bytes s h

-- these bytes are a section that says this
abbrev pub IsSection : List ℕ → SectionView → Type 0
IsSection bytes s = HasForm s.header.long bytes s
