-- The service description table of the actual transport stream (EN 300 468, 5.2.3).
use Rattle.std.specs.Prelude.{◌≡◌, ℕ, ◌+◌, ◌*◌, ◌/◌, ◌%◌, ◌^◌, ◌<◌, ◌≤◌, nat_lt, if◌then◌else◌, true, List, [], ◌∷◌, ◌++◌, length, take, drop, slice_index}
use Rattle.std.specs.Prelude.{Some, Result, Ok, Err}
use Rattle.bit_fields.specs.Fields.{number, fields}
use Rattle.bit_fields.specs.Reading.{◌>>=◌}
use Rattle.psi_tables.specs.Views.{SectionView}
use Rattle.psi_tables.specs.Tables.{table_header_at}
use Rattle.psi_tables.specs.declared.error.SectionError.{SectionError}
use Rattle.psi_tables.specs.declared.error.SectionError.TheVariants.{Body}
use Rattle.psi_tables.specs.declared.section.LongHeader.{LongHeader}
use Rattle.dvb_tables.specs.Sequences.{IsSequence}
use Rattle.dvb_tables.specs.Services.{ServiceView, IsService, services_at, services_of, services_bytes}
use Rattle.dvb_tables.specs.declared.service_description.Sdt.{Sdt}

-- the content of a service description section
pub record SdtView : Type 0 where
  pub header : LongHeader
  pub original_network_id : ℕ
  pub services : List ServiceView

-- a section is a service description section with this content: original_network_id, eight reserved bits, the services
pub record IsSdt (s : SectionView) (t : SdtView) : Type 0 where
  pub table_id : s.header.table_id ≡ 0x42
  pub long : s.header.long ≡ Some t.header
  pub section_length : 9 + length s.body ≤ 1021
  pub front : List ℕ
  pub loop : List ℕ
  pub is : s.body ≡ front ++ loop
  pub reserved : ℕ
  pub front_length : length front ≡ 3
  pub spelled : number front ≡ fields ((16, t.original_network_id) ∷ (8, reserved) ∷ [])
  pub original_network_id : t.original_network_id < 2 ^ 16
  pub eight_bits : reserved < 2 ^ 8
  pub services : IsSequence IsService loop t.services

-- the table whose body begins with these three bytes and continues with a loop of services
unfoldable pub sdt_after : LongHeader → List ℕ → List ℕ → Result SdtView SectionError
sdt_after header front loop = services_at loop >>= λ services. Ok (record {
  header = header;
  original_network_id = slice_index front 0 * 256 + slice_index front 1;
  services = services;
})

-- the table of this body
unfoldable pub sdt_body_at : LongHeader → List ℕ → Result SdtView SectionError
sdt_body_at header body = if nat_lt (length body) 3 then Err Body else sdt_after header (take 3 body) (drop 3 body)

-- reading: Syntax, Length, then Body if the section ends within the front or an entry
unfoldable pub sdt_at : SectionView → Result SdtView SectionError
sdt_at s = table_header_at 0x42 1021 s >>= λ header. sdt_body_at header s.body

-- the body as it is written, reserved bits 1
unfoldable pub sdt_body : SdtView → List ℕ
sdt_body t = ((t.original_network_id / 256) ∷ (t.original_network_id % 256) ∷ 0xFF ∷ []) ++ services_bytes t.services

-- the section that carries a service description table
unfoldable pub sdt_section : SdtView → SectionView
sdt_section t = record { header = record { table_id = 0x42; private_indicator = true; long = Some t.header }; body = sdt_body t }

-- the content of a service description table
abbrev pub sdt_view : Sdt → SdtView
sdt_view t = record { header = t.header; original_network_id = t.original_network_id; services = services_of t.services }
