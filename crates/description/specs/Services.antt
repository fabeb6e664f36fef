-- What the sections of the SDT list, read one after another (EN 300 468, 5.2.3).
use Rattle.std.specs.Prelude.{◌≡◌, ℕ, ◌+◌, List, Some, Ok, IsTrue, length, map, flat_map, slice_get}
use Rattle.bit_fields.specs.Reading.{◌>>=◌}
use Rattle.psi_tables.specs.Reading.{section_at}
use Rattle.dvb_tables.specs.ServiceDescription.{SdtView, sdt_at}
use Rattle.description_parts.specs.Described.{Described}
use Rattle.description_parts.specs.Ranges.{IsInRange}
use Rattle.description_parts.specs.Tables.{kind_lengths}
use Rattle.description_parts.specs.declared.table_kind.TableKind.TheVariants.{Sdt}
use Rattle.description.specs.SectionBytes.{kind_bytes, service_says}

-- the bytes are read as this section of the SDT
abbrev pub AreSdt : List ℕ → SdtView → Type 0
AreSdt bytes t = (section_at bytes >>= λ section. sdt_at section.0) ≡ Ok t

-- the sections at a moment, as they are read: each has its number and the number of the last section, and together they
-- list the description's services, each once, in the order of the programs
pub record ListServices (d : Described) (moment : ℕ) (sections : List SdtView) : Type 0 where
  pub all : length sections ≡ length (kind_lengths d Sdt)
  pub read : (j : ℕ) (t : SdtView) → slice_get sections j ≡ Some t → AreSdt (kind_bytes d Sdt j moment) t
  pub numbered : (j : ℕ) (t : SdtView) → slice_get sections j ≡ Some t → t.header.section_number ≡ j
  pub last : (j : ℕ) (t : SdtView) → slice_get sections j ≡ Some t → t.header.last_section_number + 1 ≡ length sections
  pub services : flat_map (λ t. t.services) sections ≡ map (service_says d.has_eit) d.programs

abbrev pub ServicesLaw : Type 0
ServicesLaw = (d : Described) (moment : ℕ) → IsInRange d → IsTrue d.has_sdt → (sections : List SdtView) × ListServices d moment sections
