-- The programs that a stream's program association table names (ISO/IEC 13818-1, 2.4.4.3).
use Rattle.std.specs.Prelude.{ℕ, ◌==◌, ◌&&◌, ◌||◌, not, Bool, false, if◌then◌else◌, List, [], ◌∷◌, ◌++◌, flat_map, Option, Some, None, option_map}
use Rattle.std.specs.Prelude.{option_and_then, Result, Ok, Err}
use Rattle.std.specs.List.{list_any, list_all}
use Rattle.std.specs.Option.{option_or}
use Rattle.psi_tables.specs.Views.{SectionView}
use Rattle.psi_tables.specs.Reading.{section_at}
use Rattle.psi_tables.specs.ProgramAssociation.{PatView, pat_at}
use Rattle.psi_tables.specs.declared.error.SectionError.{SectionError}
use Rattle.psi_tables.specs.declared.pat.programs.Program.{Program}
use Rattle.pid_findings.specs.Views.{FindingView}
use Rattle.program_tables.specs.Sections.{section_on}

-- 1. The tables

-- a table that is in force now, and not the next one
unfoldable pub in_force : Result PatView SectionError → Option PatView
in_force (Err error) = None
in_force (Ok pat) = if pat.header.current_next then Some pat else None

unfoldable pub pat_of_section : Result (SectionView × ℕ) SectionError → Option PatView
pat_of_section (Err error) = None
pat_of_section (Ok section) = in_force (pat_at section.0)

unfoldable pub pat_in : List ℕ → Option PatView
pat_in bytes = pat_of_section (section_at bytes)

-- the table that a finding has: a section on PID 0
unfoldable pub pat_found : FindingView → Option PatView
pat_found finding = option_and_then pat_in (section_on 0 finding)

-- the first program association table of a stream
unfoldable pub first_pat : List FindingView → Option PatView
first_pat [] = None
first_pat (finding ∷ findings) = option_or (pat_found finding) (first_pat findings)

-- 2. Their entries

-- the entries of a table, if it has this version
unfoldable pub entries_of : ℕ → Option PatView → List Program
entries_of version None = []
entries_of version (Some pat) = if pat.header.version_number == version then pat.programs else []

-- the entries of all sections of this version
unfoldable pub entries : ℕ → List FindingView → List Program
entries version findings = flat_map (λ finding. entries_of version (pat_found finding)) findings

unfoldable pub is_named : ℕ → List Program → Bool
is_named number programs = list_any (λ program. program.program_number == number) programs

-- an entry is added to the named programs: program_number 0 names the network PID, and for each number the first entry counts
unfoldable pub with_program : List Program → Program → List Program
with_program named p = if (p.program_number == 0) || is_named p.program_number named then named else named ++ p ∷ []

unfoldable pub with_programs : List Program → List Program → List Program
with_programs named [] = named
with_programs named (p ∷ ps) = with_programs (with_program named p) ps

-- 3. The association

pub record AssociationView : Type 0 where
  pub transport_stream_id : ℕ
  pub version_number : ℕ
  pub programs : List Program

-- the programs in sections with the version of the first section
unfoldable pub association : List FindingView → Option AssociationView
association findings = option_map (λ first. record {
  transport_stream_id = first.header.table_id_extension;
  version_number = first.header.version_number;
  programs = with_programs [] (entries first.header.version_number findings);
}) (first_pat findings)

-- 4. Tables that say something else

-- a program is among these with the same PID
unfoldable pub is_entry : List Program → Program → Bool
is_entry named p = list_any (λ other. other.program_number == p.program_number && other.pid == p.pid) named

-- an entry adds nothing to these: it names the network PID, or is among them
unfoldable pub is_said : List Program → Program → Bool
is_said named p = (p.program_number == 0) || is_entry named p

-- a table of another version or of another transport stream, or with another PID of a program's map
unfoldable pub differs : AssociationView → PatView → Bool
differs a pat =
    not (pat.header.version_number == a.version_number) ||
    (not (pat.header.table_id_extension == a.transport_stream_id) || not (list_all (is_said a.programs) pat.programs))

unfoldable pub is_other : AssociationView → Option PatView → Bool
is_other a None = false
is_other a (Some pat) = differs a pat

-- the packet at which the first one is found
unfoldable pub association_change : AssociationView → List FindingView → Option ℕ
association_change a [] = None
association_change a (finding ∷ findings) =
    if is_other a (pat_found finding) then Some finding.packet else association_change a findings
