-- The tables of a description are written as sections that a reader accepts; no section has table_id 0xFF.
use Rattle.std.proofs.Common.{◌≡◌, ℕ, ◌+◌, ◌<◌, ◌≤◌, ◌==◌, Bool, true, false, List, [], ◌++◌, length, map, Option, None, Some, refl, arith, length-append}
use Rattle.std.proofs.Common.{All, ne_eqb, if◌then◌else◌}
use Rattle.std.specs.Option.{option_to_list}
use Rattle.std.specs.Prelude.{is_some}
use Rattle.std.proofs.lemmas.List.Elements.{All-head}
use Rattle.psi_tables.specs.CheckWord.{check_word}
use Rattle.psi_tables.specs.Views.{SectionView}
use Rattle.psi_tables.specs.Encoding.{section_bytes, with_crc, header_bytes, front_bytes, start_bytes, long_header_bytes, check_word_bytes, LongFits}
use Rattle.psi_tables.specs.Encoding.{IsWritable}
use Rattle.psi_tables.specs.declared.section.LongHeader.{LongHeader}
use Rattle.psi_tables.specs.ProgramAssociation.{pat_section, pat_header, programs_bytes}
use Rattle.psi_tables.specs.ProgramMap.{pmt_body, pmt_section, pmt_header}
use Rattle.dvb_tables.specs.NetworkInformation.{nit_body, nit_section}
use Rattle.dvb_tables.specs.ServiceDescription.{sdt_body, sdt_section}
use Rattle.dvb_tables.specs.EventInformation.{eit_body, eit_section}
use Rattle.dvb_tables.specs.TimeAndDate.{tdt_section}
use Rattle.dvb_tables.specs.CodedTimes.{utc_time_bytes}
use Rattle.description_parts.specs.Described.{Described, DescribedNetwork, DescribedProgram}
use Rattle.description_parts.specs.Ranges.{IsInRange, IsProgram, IsNetwork}
use Rattle.description_parts.specs.Tables.{map_length}
use Rattle.description_parts.specs.declared.network_stream.NetworkStream.{NetworkStream}
use Rattle.description.specs.SectionBytes.{part_header, single_header, pat_says, pmt_says, nit_of, sdt_says, eit_says, kind_bytes}
use Rattle.description_parts.specs.declared.table_kind.TableKind.TheVariants.{Pat, Tdt}

-- These bytes are a section that can be written; its table_id is not 0xFF.
pub record IsWritten (text : List ℕ) : Type 0 where
  pub view : SectionView
  pub is : text ≡ section_bytes view
  pub writable : IsWritable view
  pub no_stuffing : (view.header.table_id == 0xFF) ≡ false

-- Sections of the long form

abbrev long_view : ℕ → Bool → LongHeader → List ℕ → SectionView
long_view table_id private h body = record { header = record { table_id = table_id; private_indicator = private; long = Some h }; body = body }

long_size : (table_id : ℕ) (private : Bool) (h : LongHeader) (body : List ℕ) → length (section_bytes (long_view table_id private h body)) ≡ 12 + length body
unfolding section_bytes with_crc header_bytes front_bytes start_bytes long_header_bytes check_word_bytes
long_size table_id private h body =
    let start : List ℕ = start_bytes table_id true private (9 + length body) in
    let front : List ℕ = start ++ long_header_bytes h in
    let text : List ℕ = front ++ body in
    omega (arith, length-append text (check_word_bytes (check_word text)), length-append front body, length-append start (long_header_bytes h))

long_written : (table_id : ℕ) (private : Bool) (h : LongHeader) (body : List ℕ) → table_id < 255 → LongFits h →
    length (section_bytes (long_view table_id private h body)) ≤ 4096 → IsWritten (section_bytes (long_view table_id private h body))
long_written table_id private h body low fits le = record {
  view = long_view table_id private h body;
  is = refl;
  writable = record { table_id = omega (arith, low); numbers = fits; room = omega (arith, le, long_size table_id private h body) };
  no_stuffing = ne_eqb table_id 0xFF (λ e. omega (arith, e, low));
}

single_fits : (extension version : ℕ) → extension ≤ 65535 → version < 32 → LongFits (single_header extension version)
single_fits extension version le small = record {
  table_id_extension = omega (arith, le);
  version_number = omega (arith, small);
  section_number = omega arith;
  last_section_number = omega arith;
}

-- The sections of each kind of table

abbrev pub Fits4096 : List ℕ → Type 0
Fits4096 text = length text ≤ 4096

pub pat_written : (d : Described) (section moment : ℕ) → IsInRange d → Fits4096 (kind_bytes d Pat section moment) → IsWritten (kind_bytes d Pat section moment)
unfolding pat_section pat_header
pat_written d section moment r le =
    long_written 0 false (pat_says d).header (programs_bytes (pat_says d).programs) (omega arith)
    (single_fits d.transport_stream_id d.versions.pat r.transport_stream_id r.versions.pat) le

pub pmt_written : (d : Described) (o : Option DescribedProgram) (section : ℕ) → All IsProgram (option_to_list o) →
    section < length (map (map_length d) (option_to_list o)) →
    Fits4096 (elim o as (λ _. List ℕ) [ None ↦ [] | Some program ↦ section_bytes (pmt_section (pmt_says d program)) ]) →
    IsWritten (elim o as (λ _. List ℕ) [ None ↦ [] | Some program ↦ section_bytes (pmt_section (pmt_says d program)) ])
unfolding pmt_section pmt_header
pmt_written d None section is within le = absurd (omega (arith, within))
pmt_written d (Some p) section is within le =
    let program = All-head IsProgram p [] is in
    long_written 2 false (pmt_says d p).header (pmt_body (pmt_says d p)) (omega arith)
    (single_fits p.number p.pmt_version program.most_number program.pmt_version) le

-- the header of a section of several, by its numbers
part_fits : (extension version number last : ℕ) → extension ≤ 65535 → version < 32 → number < 256 → last < 256 →
    LongFits (part_header extension version number last)
part_fits extension version number last le small low most = record {
  table_id_extension = omega (arith, le);
  version_number = omega (arith, small);
  section_number = omega (arith, low);
  last_section_number = omega (arith, most);
}

-- the section of a part of the transport streams
abbrev pub streams_bytes : DescribedNetwork → ℕ → ℕ → ℕ → Option (List NetworkStream) → List ℕ
streams_bytes n version number last o =
    elim o as (λ _. List ℕ) [ None ↦ [] | Some part ↦ section_bytes (nit_section (nit_of n part version number last)) ]

pub nit_written : (n : DescribedNetwork) (version : ℕ) (o : Option (List NetworkStream)) (number last : ℕ) → IsNetwork n → version < 32 →
    is_some o ≡ true → number < 256 → last < 256 → Fits4096 (streams_bytes n version number last o) → IsWritten (streams_bytes n version number last o)
unfolding nit_section
nit_written n version None number last is small there low most le = absurd cc
nit_written n version (Some part) number last is small there low most le =
    long_written 0x40 true (nit_of n part version number last).header (nit_body (nit_of n part version number last)) (omega arith)
    (part_fits n.id version number last is.id small low most) le

-- the section of a part of the services
abbrev part_bytes : Described → ℕ → ℕ → Option (List DescribedProgram) → List ℕ
part_bytes d number last o = elim o as (λ _. List ℕ) [ None ↦ [] | Some part ↦ section_bytes (sdt_section (sdt_says d part number last)) ]

pub sdt_written : (d : Described) (b : Bool) (o : Option (List DescribedProgram)) (number last : ℕ) → IsInRange d → b ≡ true → is_some o ≡ true →
    number < 256 → last < 256 → Fits4096 (if b then part_bytes d number last o else []) → IsWritten (if b then part_bytes d number last o else [])
unfolding sdt_section
sdt_written d false o number last r is there low most le = absurd cc
sdt_written d true None number last r is there low most le = absurd cc
sdt_written d true (Some part) number last r is there low most le =
    long_written 0x42 true (sdt_says d part number last).header (sdt_body (sdt_says d part number last)) (omega arith)
    (part_fits d.transport_stream_id d.versions.sdt number last r.transport_stream_id r.versions.sdt low most) le

eit_header_fits : (d : Described) (p : DescribedProgram) (number moment : ℕ) → number < 2 → IsProgram p → LongFits (eit_says d moment p number).header
eit_header_fits d p number moment lt is = record {
  table_id_extension = omega (arith, is.most_number);
  version_number = omega arith;
  section_number = omega (arith, lt);
  last_section_number = omega arith;
}

pub eit_written : (d : Described) (o : Option DescribedProgram) (number moment : ℕ) → number < 2 → All IsProgram (option_to_list o) → is_some o ≡ true →
    Fits4096 (elim o as (λ _. List ℕ) [ None ↦ [] | Some program ↦ section_bytes (eit_section (eit_says d moment program number)) ]) →
    IsWritten (elim o as (λ _. List ℕ) [ None ↦ [] | Some program ↦ section_bytes (eit_section (eit_says d moment program number)) ])
unfolding eit_section
eit_written d None number moment lt is there le = absurd cc
eit_written d (Some p) number moment lt is there le =
    long_written 0x4E true (eit_says d moment p number).header (eit_body (eit_says d moment p number)) (omega arith)
    (eit_header_fits d p number moment lt (All-head IsProgram p [] is)) le

pub tdt_written : (d : Described) (section moment : ℕ) → IsWritten (kind_bytes d Tdt section moment)
unfolding tdt_section
tdt_written d section moment = record {
  view = tdt_section (record { utc_time = utc_time_bytes moment });
  is = refl;
  writable = record { table_id = omega arith; numbers = tt; room = omega arith };
  no_stuffing = refl;
}
