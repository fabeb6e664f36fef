-- The bytes of a section as it is written: reserved bits 1, after the long form its check word (ISO/IEC 13818-1, 2.4.4).
use Rattle.std.specs.Prelude.{ℕ, ◌+◌, ◌*◌, ◌/◌, ◌%◌, ◌^◌, ◌<◌, ◌≤◌, Bool, true, false, List, [], ◌∷◌, ◌++◌, length, Option, None, Some}
use Rattle.bit_fields.specs.Fields.{bit}
use Rattle.psi_tables.specs.CheckWord.{check_word}
use Rattle.psi_tables.specs.Views.{SectionView}
use Rattle.psi_tables.specs.declared.section.LongHeader.{LongHeader}
use Rattle.psi_tables.specs.declared.section.SectionHeader.{SectionHeader}

-- a number of 32 bits, the highest byte first
unfoldable pub check_word_bytes : ℕ → List ℕ
check_word_bytes n = (n / 2 ^ 24) ∷ (n / 2 ^ 16 % 256) ∷ (n / 2 ^ 8 % 256) ∷ (n % 256) ∷ []

-- the first three bytes, with this section_length
unfoldable pub start_bytes : ℕ → Bool → Bool → ℕ → List ℕ
start_bytes table_id is_long private_indicator n =
    table_id ∷ (bit is_long * 128 + (bit private_indicator * 64 + (0x30 + n / 256))) ∷ (n % 256) ∷ []

-- the five bytes after the length of the long form
unfoldable pub long_header_bytes : LongHeader → List ℕ
long_header_bytes h =
    (h.table_id_extension / 256) ∷ (h.table_id_extension % 256) ∷ (0xC0 + (h.version_number * 2 + bit h.current_next)) ∷ h.section_number ∷
    h.last_section_number ∷ []

-- section_length over a body of n bytes: the long form has five bytes before it and four after it
abbrev pub section_length : Option LongHeader → ℕ → ℕ
section_length None n = n
section_length (Some h) n = 9 + n

-- the number of bytes before the body
abbrev pub front_length : Option LongHeader → ℕ
front_length None = 3
front_length (Some h) = 8

-- the number of bytes after the body
abbrev pub crc_length : Option LongHeader → ℕ
crc_length None = 0
crc_length (Some h) = 4

-- what precedes a body of n bytes
unfoldable pub front_bytes : ℕ → Bool → Option LongHeader → ℕ → List ℕ
front_bytes table_id private_indicator None n = start_bytes table_id false private_indicator n
front_bytes table_id private_indicator (Some h) n = start_bytes table_id true private_indicator (9 + n) ++ long_header_bytes h

-- what precedes a body of n bytes under this header
unfoldable pub header_bytes : SectionHeader → ℕ → List ℕ
header_bytes header n = front_bytes header.table_id header.private_indicator header.long n

-- header and body with what follows them: in the long form their check word
unfoldable pub with_crc : Option LongHeader → List ℕ → List ℕ
with_crc None bytes = bytes
with_crc (Some h) bytes = bytes ++ check_word_bytes (check_word bytes)

-- the bytes of a section
unfoldable pub section_bytes : SectionView → List ℕ
section_bytes s = with_crc s.header.long (header_bytes s.header (length s.body) ++ s.body)

-- the version number has room in its five bits
abbrev pub FormFits : Option LongHeader → Type 0
FormFits None = Unit {0}
FormFits (Some h) = h.version_number < 32

-- each number of a header has room in its field
abbrev pub HeaderFits : SectionHeader → Type 0
HeaderFits header = FormFits header.long

-- each number of a header of the long form has room in its field
pub record LongFits (h : LongHeader) : Type 0 where
  pub table_id_extension : h.table_id_extension < 2 ^ 16
  pub version_number : h.version_number < 2 ^ 5
  pub section_number : h.section_number < 2 ^ 8
  pub last_section_number : h.last_section_number < 2 ^ 8

-- the same, in the form that a header has
abbrev pub NumbersFit : Option LongHeader → Type 0
NumbersFit None = Unit {0}
NumbersFit (Some h) = LongFits h

-- a section that can be written: its numbers have room, and its section_length is at most 4,093, as in a private section
pub record IsWritable (s : SectionView) : Type 0 where
  pub table_id : s.header.table_id < 2 ^ 8
  pub numbers : NumbersFit s.header.long
  pub room : section_length s.header.long (length s.body) ≤ 4093
