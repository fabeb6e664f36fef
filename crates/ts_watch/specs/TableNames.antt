-- What the sections of PAT, CAT and PMT name: each PID, program and PCR_PID with the number of the last section that names it. A PID is expected
-- as long as a table in force may name it: until each PAT section and PMT of the programs in force has come again since a section named the PID.
use Rattle.std.specs.Prelude.{ℕ, ◌+◌, ◌*◌, ◌-◌, ◌^◌, ◌==◌, ◌&&◌, ◌||◌, min, not, nat_eq, nat_lt, is_some, unwrap_or, Bool, false, if◌then◌else◌}
use Rattle.std.specs.Prelude.{List, [], ◌∷◌, length, map, Option, Some, None, Result, Ok, Err}
use Rattle.std.specs.Map.{lookup}
use Rattle.indexmap.specs.IndexMap.{insert_entry}
use Rattle.pid_findings.specs.Views.{FindingView, WhatView, IsSection}
use Rattle.psi_tables.specs.ProgramAssociation.{PatView, pat_at}
use Rattle.psi_tables.specs.ProgramMap.{PmtView, pmt_at}
use Rattle.psi_tables.specs.Reading.{section_at}
use Rattle.psi_tables.specs.Views.{SectionView}
use Rattle.psi_tables.specs.declared.error.SectionError.{SectionError}
use Rattle.psi_tables.specs.declared.pat.programs.Program.{Program}
use Rattle.psi_tables.specs.declared.section.LongHeader.{LongHeader}
use Rattle.ts_watch.specs.SectionPids.{may_name, table_pids}

-- 1. Marks: keys, each with the number of the last section that has it; of more than 65,536 keys the first ones count

abbrev pub Marks : Type 0
Marks = List (ℕ × ℕ)

abbrev pub mark_of : Marks → ℕ → Option ℕ
mark_of marks key = lookup (nat_eq key) marks

abbrev pub marked : Marks → ℕ → ℕ → Marks
marked marks section key = if nat_lt (length marks) 65536 || is_some (mark_of marks key) then insert_entry nat_eq marks key section else marks

unfoldable pub all_marked : Marks → ℕ → List ℕ → Marks
all_marked marks section [] = marks
all_marked marks section (key ∷ keys) = all_marked (marked marks section key) section keys

-- 2. A section

-- the number of sections so far; the transport stream and version of the PAT in force, and the number of its first section; the programs of PATs,
-- the programs with PMTs, the PIDs and the PCR_PIDs that sections name
pub record NamesState : Type 0 where
  pub sections : ℕ
  pub version : Option ℕ
  pub since : ℕ
  pub programs : Marks
  pub maps : Marks
  pub pids : Marks
  pub clocks : Marks

abbrev pub no_names : NamesState
no_names = record { sections = 0; version = None; since = 0; programs = []; maps = []; pids = []; clocks = [] }

abbrev pub program_key : ℕ → ℕ → ℕ
program_key pid number = pid * 65536 + number

abbrev pub program_keys : List Program → List ℕ
program_keys programs = map (λ p. program_key p.pid p.program_number) programs

abbrev pub version_of : LongHeader → ℕ
version_of header = header.table_id_extension * 256 + header.version_number

unfoldable pub is_version : Option ℕ → ℕ → Bool
is_version None version = false
is_version (Some known) version = known == version

-- a PAT in force; one of another version, or of another transport stream, takes the place of the PAT before it (ISO/IEC 13818-1, 2.4.4.5)
abbrev pub with_pat : NamesState → PatView → NamesState
with_pat s pat = record s {
  version = Some (version_of pat.header);
  since = if is_version s.version (version_of pat.header) then s.since else s.sections;
  programs = all_marked s.programs s.sections (program_keys pat.programs);
}

unfoldable pub with_association : NamesState → Result PatView SectionError → NamesState
with_association s (Err error) = s
with_association s (Ok pat) = if pat.header.current_next then with_pat s pat else s

-- a PMT in force, on a PID
abbrev pub with_pmt : NamesState → ℕ → PmtView → NamesState
with_pmt s pid pmt = record s {
  maps = marked s.maps s.sections (program_key pid pmt.header.table_id_extension);
  clocks = marked s.clocks s.sections pmt.pcr_pid;
}

unfoldable pub with_map : NamesState → ℕ → Result PmtView SectionError → NamesState
with_map s pid (Err error) = s
with_map s pid (Ok pmt) = if pmt.header.current_next then with_pmt s pid pmt else s

abbrev pub with_programs : NamesState → ℕ → SectionView → NamesState
with_programs s pid section =
    if section.header.table_id == 2 then with_map s pid (pmt_at section)
    else if (section.header.table_id == 0) && (pid == 0) then with_association s (pat_at section)
    else s

-- one more section, which names these PIDs
abbrev pub with_pids : NamesState → List ℕ → NamesState
with_pids s pids = record s {
  sections = min (s.sections + 1) (2 ^ 64 - 1);
  pids = all_marked s.pids (min (s.sections + 1) (2 ^ 64 - 1)) pids;
}

abbrev pub with_table : NamesState → ℕ → SectionView → NamesState
with_table s pid section = with_programs (with_pids s (table_pids section)) pid section

unfoldable pub with_read : NamesState → ℕ → Result (SectionView × ℕ) SectionError → NamesState
with_read s pid (Err error) = s
with_read s pid (Ok section) = with_table s pid section.0

-- a section of another table names nothing
abbrev pub with_section : NamesState → ℕ → List ℕ → NamesState
with_section s pid bytes = if may_name bytes then with_read s pid (section_at bytes) else s

-- 3. Sections one after another

unfoldable pub with_found : NamesState → ℕ → WhatView → NamesState
with_found s pid (IsSection bytes) = with_section s pid bytes
with_found s pid _ = s

unfoldable pub with_each : NamesState → List FindingView → NamesState
with_each s [] = s
with_each s (f ∷ fs) = with_each (with_found s (unwrap_or f.pid 8191) f.what) fs

-- 4. What is named

-- some section names a PID, in force or not
abbrev pub has_name : NamesState → ℕ → Bool
has_name s pid = is_some (mark_of s.pids pid)

-- a key has come in a section of a number or a later one
abbrev pub is_since : Marks → ℕ → ℕ → Bool
is_since marks section key = not (nat_lt (unwrap_or (mark_of marks key) 0) section)

-- the PAT in force names a program, with this PID of its PMT
abbrev pub has_program : NamesState → ℕ → ℕ → Bool
has_program s pid number = is_since s.programs s.since (program_key pid number)

-- the older of the last PAT section and of the last PMT of a program in force
abbrev pub program_age : NamesState → ℕ × ℕ → ℕ
program_age s program =
    if nat_lt program.1 s.since then 2 ^ 64 - 1 else min program.1 (unwrap_or (mark_of s.maps program.0) (2 ^ 64 - 1))

unfoldable pub oldest_of : NamesState → ℕ → List (ℕ × ℕ) → ℕ
oldest_of s oldest [] = oldest
oldest_of s oldest (program ∷ programs) = oldest_of s (min oldest (program_age s program)) programs

-- the table in force that came longest ago
abbrev pub oldest : NamesState → ℕ
oldest s = oldest_of s (2 ^ 64 - 1) s.programs
