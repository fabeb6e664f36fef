-- What tables say while streams are not known.
use Rattle.std.specs.Prelude.{◌≡◌, ◌≤◌, ℕ, ◌==◌, true, List, length, take, Option, Some, None}
use Rattle.psi_tables.specs.declared.pat.programs.Program.{Program}
use Rattle.pid_findings.specs.Views.{FindingView}
use Rattle.program_tables.specs.KnownTables.{KnownView, known_in}
use Rattle.stream_programs.specs.Programs.{FoundProgramsView}
use Rattle.ts_tables.specs.NamedStreams.{have_maps}

-- the first n of these programs have maps; n is their number if and only if all have maps
pub record AreMapped (found : List FindingView) (programs : List Program) (n : ℕ) : Type 0 where
  pub within : n ≤ length programs
  pub before : have_maps found (take n programs) ≡ true
  pub all : (n == length programs) ≡ have_maps found programs

-- the tables among findings; the first `mapped` programs have maps
pub record AreTables (tables : KnownView) (found : List FindingView) (mapped : ℕ) : Type 0 where
  pub known : tables ≡ known_in found
  pub within : mapped ≤ length tables.programs
  pub before : have_maps found (take mapped tables.programs) ≡ true

-- the tables, if the streams are not known yet
unfoldable pub AreUnknown : Option FoundProgramsView → KnownView → List FindingView → ℕ → Type 0
AreUnknown None tables found mapped = AreTables tables found mapped
AreUnknown (Some streams) tables found mapped = Unit {0}
