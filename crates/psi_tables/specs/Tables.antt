-- What the tables of the long form share: table_id and form, then the greatest section_length.
use Rattle.std.specs.Prelude.{ℕ, ◌+◌, ◌==◌, if◌then◌else◌, nat_lt, length, Option, None, Some, Result, Ok, Err}
use Rattle.psi_tables.specs.Views.{SectionView}
use Rattle.psi_tables.specs.declared.error.SectionError.{SectionError}
use Rattle.psi_tables.specs.declared.error.SectionError.TheVariants.{Length, Syntax}
use Rattle.psi_tables.specs.declared.section.LongHeader.{LongHeader}

-- the fields of the long form, over a body of n bytes
unfoldable pub form_at : ℕ → Option LongHeader → ℕ → Result LongHeader SectionError
form_at greatest None n = Err Syntax
form_at greatest (Some h) n = if nat_lt greatest (9 + n) then Err Length else Ok h

-- the fields of the long form of a section of this table_id, whose section_length is at most the greatest of its table
unfoldable pub table_header_at : ℕ → ℕ → SectionView → Result LongHeader SectionError
table_header_at table_id greatest s = if s.header.table_id == table_id then form_at greatest s.header.long (length s.body) else Err Syntax
