-- The table_id of each section of a table that is not ready-made.
use Rattle.std.proofs.Common.{◌≡◌, ℕ, ◌-◌, ◌<◌, Bool, true, false, List, [], length, map, slice_get, Option, None, Some, refl, subst, ◌∙◌, ap, arith}
use Rattle.std.proofs.Common.{if◌then◌else◌}
use Rattle.std.specs.Prelude.{is_some, slice_index}
use Rattle.std.specs.Option.{option_to_list}
use Rattle.psi_tables.specs.Encoding.{section_bytes, with_crc, header_bytes, front_bytes, start_bytes}
use Rattle.psi_tables.specs.ProgramAssociation.{pat_section, pat_header}
use Rattle.psi_tables.specs.ProgramMap.{pmt_section, pmt_header}
use Rattle.dvb_tables.specs.NetworkInformation.{nit_section}
use Rattle.dvb_tables.specs.ServiceDescription.{sdt_section}
use Rattle.dvb_tables.specs.EventInformation.{eit_section}
use Rattle.dvb_tables.specs.TimeAndDate.{tdt_section}
use Rattle.description_parts.specs.Described.{Described, DescribedNetwork, DescribedProgram}
use Rattle.description_parts.specs.Tables.{scheduled_programs, table_kinds, table_kind, kind_lengths, section_lengths, section_count, map_length}
use Rattle.description_parts.specs.Tables.{network_lengths, nit_parts, sdt_parts, eit_place}
use Rattle.description_parts.specs.declared.network_stream.NetworkStream.{NetworkStream}
use Rattle.description.specs.SectionBytes.{network_bytes, pmt_says, sdt_says, eit_bytes, kind_bytes, table_bytes}
use Rattle.description_parts.specs.declared.table_kind.TableKind.{TableKind}
use Rattle.description_parts.specs.declared.table_kind.TableKind.TheVariants.{Pat, Pmt, Nit, Sdt, Eit, Tdt, Private}
use Rattle.description.proofs.Pids.{at_place}
use Rattle.laws_run.proofs.TablesWritten.{IsThere, kinds_there, IsMade, some_there, eit_there, part_there, streams_there}
use Rattle.laws_run.proofs.DescribedSections.{streams_bytes}

-- The table_id of each kind (ISO/IEC 13818-1, table 2-31; EN 300 468, table 2); a ready-made table may have any table_id
abbrev pub table_id_of : TableKind → ℕ
table_id_of Pat = 0x00
table_id_of (Pmt p) = 0x02
table_id_of Nit = 0x40
table_id_of Sdt = 0x42
table_id_of Eit = 0x4E
table_id_of Tdt = 0x70
table_id_of (Private i) = 0xFF

abbrev pub HasId : ℕ → List ℕ → Type 0
HasId id text = slice_index text 0 ≡ id

pat_id : (d : Described) (section moment : ℕ) → HasId 0x00 (kind_bytes d Pat section moment)
unfolding section_bytes with_crc header_bytes front_bytes start_bytes pat_section pat_header
pat_id d section moment = refl

pmt_id : (d : Described) (o : Option DescribedProgram) (section : ℕ) → section < length (map (map_length d) (option_to_list o)) →
    HasId 0x02 (elim o as (λ _. List ℕ) [ None ↦ [] | Some program ↦ section_bytes (pmt_section (pmt_says d program)) ])
unfolding section_bytes with_crc header_bytes front_bytes start_bytes pmt_section pmt_header
pmt_id d None section within = absurd (omega (arith, within))
pmt_id d (Some p) section within = refl

streams_id : (n : DescribedNetwork) (version : ℕ) (o : Option (List NetworkStream)) (number last : ℕ) → is_some o ≡ true →
    HasId 0x40 (streams_bytes n version number last o)
unfolding section_bytes with_crc header_bytes front_bytes start_bytes nit_section
streams_id n version None number last there = absurd (cc)
streams_id n version (Some part) number last there = refl

nit_id : (d : Described) (o : Option DescribedNetwork) (section : ℕ) → d.network ≡ o →
    section < length (elim o as (λ _. List ℕ) [ None ↦ [] | Some n ↦ network_lengths d n ]) →
    HasId 0x40 (elim o as (λ _. List ℕ) [ None ↦ [] | Some n ↦ network_bytes n (nit_parts d n) d.versions.nit section ])
nit_id d None section e within = absurd (omega (arith, within))
nit_id d (Some n) section e within =
    streams_id n d.versions.nit (slice_get (nit_parts d n) section) section (length (nit_parts d n) - 1) (streams_there d n section e within).0

sdt_id : (d : Described) (b : Bool) (o : Option (List DescribedProgram)) (number last : ℕ) → b ≡ true → is_some o ≡ true →
    HasId 0x42 (if b then (elim o as (λ _. List ℕ) [ None ↦ [] | Some part ↦ section_bytes (sdt_section (sdt_says d part number last)) ]) else [])
unfolding section_bytes with_crc header_bytes front_bytes start_bytes sdt_section
sdt_id d false o number last is there = absurd (cc)
sdt_id d true None number last is there = absurd (cc)
sdt_id d true (Some part) number last is there = refl

eit_id : (d : Described) (o : Option DescribedProgram) (number moment : ℕ) → is_some o ≡ true →
    HasId 0x4E (elim o as (λ _. List ℕ) [ None ↦ [] | Some program ↦ eit_bytes d moment program number ])
unfolding section_bytes with_crc header_bytes front_bytes start_bytes eit_section
eit_id d None number moment there = absurd (cc)
eit_id d (Some p) number moment there = refl

tdt_id : (d : Described) (section moment : ℕ) → HasId 0x70 (kind_bytes d Tdt section moment)
unfolding section_bytes with_crc header_bytes front_bytes start_bytes tdt_section
tdt_id d section moment = refl

kind_id : (d : Described) (k : TableKind) (section moment : ℕ) → IsThere d k → IsMade k → section < length (kind_lengths d k) →
    HasId (table_id_of k) (kind_bytes d k section moment)
kind_id d Pat section moment there made within = pat_id d section moment
kind_id d (Pmt p) section moment there made within = pmt_id d (slice_get d.programs p) section within
kind_id d Nit section moment there made within = nit_id d d.network section refl within
kind_id d Sdt section moment there made within =
    sdt_id d d.has_sdt (slice_get (sdt_parts d) section) section (length (sdt_parts d) - 1) there (part_there d section within)
kind_id d Eit section moment there made within =
    let place : ℕ = (eit_place d section).0 in
    eit_id d (slice_get (scheduled_programs d) place) (eit_place d section).1 moment (some_there (scheduled_programs d) place (eit_there d section within).0)
kind_id d Tdt section moment there made within = tdt_id d section moment
kind_id d (Private i) section moment there made within = absurd made

pub text_id : (d : Described) (t section moment : ℕ) (k : TableKind) → table_kind d t ≡ Some k → IsMade k → section < section_count d t →
    HasId (table_id_of k) (table_bytes d t section moment)
text_id d t section moment k is made within =
    let there : IsThere d k = at_place (IsThere d) (table_kinds d) t k (kinds_there d) is in
    let lengths : section_lengths d t ≡ kind_lengths d k = rw is refl in
    let text : table_bytes d t section moment ≡ kind_bytes d k section moment = rw is refl in
    let inside : section < length (kind_lengths d k) = subst (λ (ls : List ℕ). section < length ls) lengths within in
    ap (λ (bytes : List ℕ). slice_index bytes 0) text ∙ kind_id d k section moment there made inside
