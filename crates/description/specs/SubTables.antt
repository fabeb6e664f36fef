-- The sub-tables of a description (EN 300 468, 5.1.1): sections that have one version_number. Each section of PAT, NIT, SDT,
-- PMT and EIT is of one, by its table and number.
use Rattle.std.specs.Prelude.{ℕ, zero, suc, ◌+◌, ◌-◌, ◌==◌, ◌&&◌, nat_lt, bytes_eq, Bool, true, List, [], ◌∷◌, map, Option, None, Some, length, option_map}
use Rattle.std.specs.Prelude.{option_and_then, slice_get, if◌then◌else◌}
use Rattle.psi_tables.specs.Encoding.{section_bytes}
use Rattle.psi_tables.specs.ProgramAssociation.{pat_section}
use Rattle.psi_tables.specs.ProgramMap.{pmt_section}
use Rattle.dvb_tables.specs.EventInformation.{eit_section}
use Rattle.description_parts.specs.Described.{Described, DescribedProgram}
use Rattle.description_parts.specs.Numbers.{with_versions, with_programs, with_pmt_version, with_eit_count, numbered_at}
use Rattle.description_parts.specs.Tables.{is_scheduled, sdt_parts, eit_place, table_kind, kind_lengths}
use Rattle.description_parts.specs.declared.table_kind.TableKind.{TableKind}
use Rattle.description_parts.specs.declared.table_kind.TableKind.TheVariants as kind
use Rattle.description.specs.SectionBytes.{pat_of, pmt_of, nit_part_bytes, sdt_part_bytes, eit_of, eit_version}
use Rattle.description.specs.declared.sub_table.SubTable.{SubTable}
use Rattle.description.specs.declared.sub_table.SubTable.TheVariants.{Pat, Nit, Sdt, Map, Events}

-- the sub-tables by number: PAT, NIT, SDT, the PMTs of 64 programs, their events
abbrev pub sub_table_count : ℕ
sub_table_count = 131

abbrev pub sub_table_number : SubTable → ℕ
sub_table_number Pat = 0
sub_table_number Nit = 1
sub_table_number Sdt = 2
sub_table_number (Map p) = 3 + p
sub_table_number (Events p) = 67 + p

abbrev pub numbered_sub_table : ℕ → SubTable
numbered_sub_table n = if n == 0 then Pat else (if n == 1 then Nit else (if n == 2 then Sdt else (if nat_lt n 67 then Map (n - 3) else Events (n - 67))))

-- the places of the programs that the EIT has
abbrev pub places_where : {X : Type 0} → (X → Bool) → List X → List ℕ
places_where test [] = []
places_where test (x ∷ xs) = if test x then 0 ∷ map suc (places_where test xs) else map suc (places_where test xs)

abbrev pub scheduled_places : Described → List ℕ
scheduled_places d = places_where (is_scheduled d.has_eit) d.programs

-- the sub-table of a section of a kind of table, and of the table of a number; TDT and private sections are of none
abbrev pub sub_table_in : Described → TableKind → ℕ → Option SubTable
sub_table_in d kind.Pat section = Some Pat
sub_table_in d (kind.Pmt p) section = Some (Map p)
sub_table_in d kind.Nit section = Some Nit
sub_table_in d kind.Sdt section = Some Sdt
sub_table_in d kind.Eit section = option_map Events (slice_get (scheduled_places d) (eit_place d section).0)
sub_table_in d kind.Tdt section = None
sub_table_in d (kind.Private i) section = None

abbrev pub sub_table_of : Described → ℕ → ℕ → Option SubTable
sub_table_of d t section = option_and_then (λ k. sub_table_in d k section) (table_kind d t)

-- the number of the section in its sub-table
abbrev pub number_in : Described → TableKind → ℕ → ℕ
number_in d kind.Eit section = (eit_place d section).1
number_in d k section = section

abbrev pub number_of : Described → ℕ → ℕ → ℕ
number_of d t section = elim (table_kind d t) [ None ↦ section | Some k ↦ number_in d k section ]

-- the number of a sub-table in the description: its version, or, for events, the number that is counted on
abbrev pub program_number_by : (DescribedProgram → ℕ) → Option DescribedProgram → ℕ
program_number_by number None = 0
program_number_by number (Some p) = number p

abbrev pub count_of : Described → SubTable → ℕ
count_of d Pat = d.versions.pat
count_of d Nit = d.versions.nit
count_of d Sdt = d.versions.sdt
count_of d (Map p) = program_number_by (λ q. q.pmt_version) (slice_get d.programs p)
count_of d (Events p) = program_number_by (λ q. q.eit_count) (slice_get d.programs p)

-- the version_number that its sections show at a moment
abbrev pub version_of : Described → SubTable → ℕ → ℕ
version_of d (Events p) moment = program_number_by (eit_version moment) (slice_get d.programs p)
version_of d x moment = count_of d x

-- the description with another number of one sub-table
abbrev pub with_count : Described → SubTable → ℕ → Described
with_count d Pat n = with_versions d (record d.versions { pat = n })
with_count d Nit n = with_versions d (record d.versions { nit = n })
with_count d Sdt n = with_versions d (record d.versions { sdt = n })
with_count d (Map p) n = with_programs d (numbered_at (with_pmt_version n) p d.programs)
with_count d (Events p) n = with_programs d (numbered_at (with_eit_count n) p d.programs)

-- how many sections it has, if its table is there
abbrev pub sections_in : Described → SubTable → ℕ
sections_in d Pat = 1
sections_in d Nit = length (kind_lengths d kind.Nit)
sections_in d Sdt = length (sdt_parts d)
sections_in d (Map p) = length (kind_lengths d (kind.Pmt p))
sections_in d (Events p) = elim (slice_get d.programs p) [ None ↦ 0 | Some q ↦ if is_scheduled d.has_eit q then 2 else 0 ]

-- the bytes of the section of a number at a moment, under a version
abbrev pub section_of : Described → SubTable → ℕ → ℕ → ℕ → List ℕ
section_of d Pat version number moment = section_bytes (pat_section (pat_of d version))
section_of d Nit version number moment = nit_part_bytes d version number
section_of d Sdt version number moment = if d.has_sdt then sdt_part_bytes d version number else []
section_of d (Map p) version number moment = elim (slice_get d.programs p) [ None ↦ [] | Some q ↦ section_bytes (pmt_section (pmt_of d q version)) ]
section_of d (Events p) version number moment =
    elim (slice_get d.programs p) [ None ↦ [] | Some q ↦ section_bytes (eit_section (eit_of d moment q version number)) ]

-- the same without its version: under version 0, with the check word of these bytes
abbrev pub unnumbered : Described → SubTable → ℕ → ℕ → List ℕ
unnumbered d x moment number = section_of d x 0 number moment

-- two descriptions have the same sections of a sub-table of each at a moment, but for their versions, and so of one sub-table
abbrev pub same_below : (ℕ → List ℕ) → (ℕ → List ℕ) → ℕ → Bool
same_below f g zero = true
same_below f g (suc n) = same_below f g n && bytes_eq (f n) (g n)

abbrev pub says_same : Described → SubTable → Described → SubTable → ℕ → Bool
says_same d x e y moment = (sections_in d x == sections_in e y) && same_below (unnumbered d x moment) (unnumbered e y moment) (sections_in d x)

abbrev pub shows_same : Described → Described → SubTable → ℕ → Bool
shows_same d e x moment = says_same d x e x moment
