-- What the versions of sub-tables promise, and that they change nothing else.
use Rattle.std.specs.Prelude.{◌≡◌, ◌≢◌, ℕ, ◌/◌, ◌%◌, ◌<◌, List, map, Some, length, slice_index, IsTrue}
use Rattle.description_parts.specs.Described.{Described, DescribedProgram}
use Rattle.description_parts.specs.Ranges.{IsInRange}
use Rattle.description_parts.specs.Tables.{table_kinds, table_pid, table_limit, section_count, section_lengths}
use Rattle.description.specs.declared.sub_table.SubTable.{SubTable}
use Rattle.description.specs.SectionBytes.{table_bytes}
use Rattle.description.specs.SubTables.{sub_table_number, sub_table_of, number_of, count_of, version_of, with_count, sections_in, section_of, shows_same}

-- the version_number of a section of the long form (ISO/IEC 13818-1, 2.4.4.5)
abbrev pub shown_version : List ℕ → ℕ
shown_version bytes = slice_index bytes 5 / 2 % 32

-- a section of a sub-table is its section of a number under the version that the description has, and shows that version
pub record IsNumbered (d : Described) (t section moment : ℕ) (x : SubTable) : Type 0 where
  pub bytes : table_bytes d t section moment ≡ section_of d x (version_of d x moment) (number_of d t section) moment
  pub shown : IsInRange d → 0 < length (table_bytes d t section moment) → shown_version (table_bytes d t section moment) ≡ version_of d x moment
  pub below : IsInRange d → version_of d x moment < 32

abbrev pub NumberedLaw : Type 0
NumberedLaw = (d : Described) (t section moment : ℕ) (x : SubTable) → sub_table_of d t section ≡ Some x → IsNumbered d t section moment x

-- two descriptions that show the same of a sub-table, under one version, have the same bytes; so where the bytes differ under one version,
-- they do not show the same
abbrev pub VersionedLaw : Type 0
VersionedLaw = (d e : Described) (t section moment : ℕ) (x : SubTable) → section < section_count d t →
    sub_table_of d t section ≡ Some x → sub_table_of e t section ≡ Some x → number_of d t section ≡ number_of e t section →
    IsTrue (shows_same d e x moment) → version_of d x moment ≡ version_of e x moment →
    table_bytes d t section moment ≡ table_bytes e t section moment

-- a description without its versions
abbrev pub without_number : DescribedProgram → DescribedProgram
without_number p = record p { pmt_version = 0; eit_count = 0 }

abbrev pub without_versions : Described → Described
without_versions d = record d { versions = record { pat = 0; nit = 0; sdt = 0 }; programs = map without_number d.programs }

-- two descriptions that differ in their versions alone have the same tables, lengths and sections under any version
pub record HasSameTables (d e : Described) : Type 0 where
  pub kinds : table_kinds d ≡ table_kinds e
  pub pids : (t : ℕ) → table_pid d t ≡ table_pid e t
  pub limits : (t : ℕ) → table_limit d t ≡ table_limit e t
  pub lengths : (t : ℕ) → section_lengths d t ≡ section_lengths e t
  pub sub_tables : (t section : ℕ) → sub_table_of d t section ≡ sub_table_of e t section
  pub numbers : (t section : ℕ) → number_of d t section ≡ number_of e t section
  pub counts : (x : SubTable) → sections_in d x ≡ sections_in e x
  pub sections : (x : SubTable) (version number moment : ℕ) → section_of d x version number moment ≡ section_of e x version number moment

abbrev pub SameTablesLaw : Type 0
SameTablesLaw = (d e : Described) → without_versions d ≡ without_versions e → HasSameTables d e

-- a description with another number of a sub-table: nothing else changes
pub record IsCounted (d e : Described) (x : SubTable) (n : ℕ) : Type 0 where
  pub same : without_versions e ≡ without_versions d
  pub others : (y : SubTable) → sub_table_number y ≢ sub_table_number x → count_of e y ≡ count_of d y
  pub range : IsInRange d → n < 32 → IsInRange e

abbrev pub CountedLaw : Type 0
CountedLaw = (d : Described) (x : SubTable) (n : ℕ) → IsCounted d (with_count d x n) x n

-- and the number is the one that was asked for, if a section is of the sub-table
abbrev pub CountLaw : Type 0
CountLaw = (d : Described) (t section n : ℕ) (x : SubTable) → section < section_count d t → sub_table_of d t section ≡ Some x → count_of (with_count d x n) x ≡ n
