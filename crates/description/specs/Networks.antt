-- What the sections of the NIT list, read one after another (EN 300 468, 5.2.1).
use Rattle.std.specs.Prelude.{◌≡◌, ℕ, ◌+◌, List, Some, Ok, length, map, flat_map, slice_get}
use Rattle.bit_fields.specs.Reading.{◌>>=◌}
use Rattle.psi_tables.specs.Reading.{section_at}
use Rattle.dvb_tables.specs.NetworkInformation.{NitView, nit_at}
use Rattle.description_parts.specs.Described.{Described, DescribedNetwork, network_stream_view}
use Rattle.description_parts.specs.Ranges.{IsInRange}
use Rattle.description_parts.specs.Tables.{kind_lengths, network_streams}
use Rattle.description_parts.specs.declared.table_kind.TableKind.TheVariants.{Nit}
use Rattle.description.specs.SectionBytes.{kind_bytes, network_loop}

-- the bytes are read as this section of the NIT
abbrev pub AreNit : List ℕ → NitView → Type 0
AreNit bytes t = (section_at bytes >>= λ section. nit_at section.0) ≡ Ok t

-- the sections at a moment, as they are read: each has its number and the number of the last section, section 0 has the network's descriptors and
-- the others have none, and together they list this transport stream and the network's others, each once and in order, with their descriptors
pub record ListStreams (d : Described) (n : DescribedNetwork) (moment : ℕ) (sections : List NitView) : Type 0 where
  pub all : length sections ≡ length (kind_lengths d Nit)
  pub read : (j : ℕ) (t : NitView) → slice_get sections j ≡ Some t → AreNit (kind_bytes d Nit j moment) t
  pub network : (j : ℕ) (t : NitView) → slice_get sections j ≡ Some t → t.header.table_id_extension ≡ n.id
  pub numbered : (j : ℕ) (t : NitView) → slice_get sections j ≡ Some t → t.header.section_number ≡ j
  pub last : (j : ℕ) (t : NitView) → slice_get sections j ≡ Some t → t.header.last_section_number + 1 ≡ length sections
  pub descriptors : (j : ℕ) (t : NitView) → slice_get sections j ≡ Some t → t.network_descriptors ≡ network_loop n j
  pub streams : flat_map (λ t. t.transport_streams) sections ≡ map network_stream_view (network_streams d n)

abbrev pub NetworkLaw : Type 0
NetworkLaw = (d : Described) (n : DescribedNetwork) (moment : ℕ) → IsInRange d → d.network ≡ Some n → (sections : List NitView) × ListStreams d n moment sections
