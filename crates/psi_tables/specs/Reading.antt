-- Reading the section at the front of bytes, with the first refusal.
use Rattle.std.specs.Prelude.{ℕ, ◌+◌, ◌-◌, ◌*◌, ◌/◌, ◌%◌, ◌==◌, if◌then◌else◌, nat_lt, Bool, true, false, List, [], ◌∷◌, length, take, drop, slice_index, None}
use Rattle.std.specs.Prelude.{Some, Result, Ok, Err}
use Rattle.bit_fields.specs.Fields.{flag}
use Rattle.bit_fields.specs.Reading.{◌>>=◌}
use Rattle.psi_tables.specs.CheckWord.{check_word}
use Rattle.psi_tables.specs.Views.{SectionView}
use Rattle.psi_tables.specs.declared.error.SectionError.{SectionError}
use Rattle.psi_tables.specs.declared.error.SectionError.TheVariants.{Short, Length, CheckWord}
use Rattle.psi_tables.specs.declared.section.LongHeader.{LongHeader}
use Rattle.psi_tables.specs.declared.section.SectionStart.{SectionStart}

-- the first three bytes
unfoldable pub section_start_at : List ℕ → Result SectionStart SectionError
section_start_at [] = Err Short
section_start_at (a ∷ []) = Err Short
section_start_at (a ∷ b ∷ []) = Err Short
section_start_at (table_id ∷ high ∷ low ∷ rest) =
    Ok (record { table_id = table_id; is_long = flag high 128; private_indicator = flag high 64; section_length = high % 16 * 256 + low })

-- whether a length is refused: over 4,093, or too small for the long form
unfoldable pub is_bad_length : Bool → ℕ → Bool
is_bad_length is_long n = if nat_lt 4093 n then true else (if is_long then nat_lt n 9 else false)

-- the five bytes after the length of the long form
unfoldable pub long_header_of : List ℕ → LongHeader
long_header_of bytes = record {
  table_id_extension = slice_index bytes 0 * 256 + slice_index bytes 1;
  version_number = slice_index bytes 2 / 2 % 32;
  current_next = slice_index bytes 2 % 2 == 1;
  section_number = slice_index bytes 3;
  last_section_number = slice_index bytes 4;
}

-- the section that starts so and has these bytes after its length
unfoldable pub short_section : SectionStart → List ℕ → SectionView
short_section start rest = record {
  header = record { table_id = start.table_id; private_indicator = start.private_indicator; long = None };
  body = rest;
}

unfoldable pub long_section : SectionStart → List ℕ → SectionView
long_section start rest = record {
  header = record { table_id = start.table_id; private_indicator = start.private_indicator; long = Some (long_header_of (take 5 rest)) };
  body = take (length rest - 9) (drop 5 rest);
}

-- a whole section
unfoldable pub whole_at : SectionStart → List ℕ → Result SectionView SectionError
whole_at start bytes =
    if start.is_long then (if check_word bytes == 0 then Ok (long_section start (drop 3 bytes)) else Err CheckWord)
    else Ok (short_section start (drop 3 bytes))

-- the section after its first three bytes
unfoldable pub sized_at : SectionStart → List ℕ → Result (SectionView × ℕ) SectionError
sized_at start bytes =
    if is_bad_length start.is_long start.section_length then Err Length
    else if nat_lt (length bytes) (3 + start.section_length) then Err Short
    else (whole_at start (take (3 + start.section_length) bytes) >>= λ section. Ok (section, 3 + start.section_length))

-- the section at the front, and the number of its bytes
unfoldable pub section_at : List ℕ → Result (SectionView × ℕ) SectionError
section_at bytes = section_start_at bytes >>= λ start. sized_at start bytes
