-- The time and date table (EN 300 468, 5.2.5).
use Rattle.std.specs.Prelude.{◌≡◌, ℕ, ◌==◌, if◌then◌else◌, true, List, length, Option, None, Some, Result, Ok, Err}
use Rattle.psi_tables.specs.Views.{SectionView}
use Rattle.psi_tables.specs.declared.error.SectionError.{SectionError}
use Rattle.psi_tables.specs.declared.error.SectionError.TheVariants.{Syntax, Body}
use Rattle.psi_tables.specs.declared.section.LongHeader.{LongHeader}
use Rattle.dvb_tables.specs.declared.time_and_date.Tdt.{Tdt}

-- a section is a time and date section with this content: the short form, with UTC_time alone
pub record IsTdt (s : SectionView) (t : Tdt) : Type 0 where
  pub table_id : s.header.table_id ≡ 0x70
  pub short : s.header.long ≡ None
  pub utc_time : s.body ≡ t.utc_time
  pub section_length : length s.body ≡ 5

-- the table of this form and body
unfoldable pub tdt_of_form : Option LongHeader → List ℕ → Result Tdt SectionError
tdt_of_form None body = if length body == 5 then Ok (record { utc_time = body }) else Err Body
tdt_of_form (Some h) body = Err Syntax

-- reading: Syntax, then Body for another length than 5
unfoldable pub tdt_at : SectionView → Result Tdt SectionError
tdt_at s = if s.header.table_id == 0x70 then tdt_of_form s.header.long s.body else Err Syntax

-- the section that carries a time and date table
unfoldable pub tdt_section : Tdt → SectionView
tdt_section t = record { header = record { table_id = 0x70; private_indicator = true; long = None }; body = t.utc_time }
