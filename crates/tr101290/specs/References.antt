-- The PIDs that the tables of a stream name: the program association table and the maps by which its streams are known (ISO/IEC
-- 13818-1, 2.4.4.3 and 2.4.4.8).
use Rattle.std.specs.Prelude.{ℕ, ◌==◌, if◌then◌else◌, List, [], ◌∷◌, ◌++◌, map, flat_map, Option, Some, None}
use Rattle.psi_tables.specs.ProgramMap.{PmtView}
use Rattle.psi_tables.specs.declared.pat.programs.Program.{Program}
use Rattle.program_tables.specs.Association.{AssociationView, association}
use Rattle.program_tables.specs.ProgramMaps.{program_map}
use Rattle.stream_programs.specs.Programs.{FoundProgramsView}
use Rattle.stream_programs.specs.StrayPids.{mapped_pids}
use Rattle.pid_findings.specs.Views.{FindingView}
use Rattle.ts_tables.specs.NamedStreams.{NamedView}

-- the PID of a program's clock references, by its map; 8191 says that it has none
unfoldable pub clock_pid : Option PmtView → List ℕ
clock_pid None = []
clock_pid (Some pmt) = if pmt.pcr_pid == 8191 then [] else pmt.pcr_pid ∷ []

abbrev pub program_clock : List FindingView → Program → List ℕ
program_clock findings p = clock_pid (program_map p findings)

-- the PIDs of clock references, also of programs without a stream that is kept
unfoldable pub clock_pids : List FindingView → Option AssociationView → List ℕ
clock_pids findings None = []
clock_pids findings (Some table) = flat_map (program_clock findings) table.programs

-- the PIDs of program maps, also of programs without a map
unfoldable pub map_pids : Option AssociationView → List ℕ
map_pids None = []
map_pids (Some table) = map (λ p. p.pid) table.programs

-- the PIDs of streams, left out or not, then of clock references, then of maps
abbrev pub pids_of : List FindingView → Option AssociationView → FoundProgramsView → List ℕ
pids_of findings table found = (mapped_pids found ++ clock_pids findings table) ++ map_pids table

unfoldable pub referenced_by : List FindingView → Option FoundProgramsView → Option (List ℕ)
referenced_by findings None = None
referenced_by findings (Some found) = Some (pids_of findings (association findings) found)

abbrev pub referenced_pids : NamedView → Option (List ℕ)
referenced_pids named = referenced_by named.demux.found named.streams
