-- What the tables among findings say, finding by finding: the programs that the association names, and the places of their maps.
use Rattle.std.specs.Prelude.{ℕ, ◌+◌, List, [], ◌∷◌, Option, Some, None}
use Rattle.psi_tables.specs.ProgramAssociation.{PatView}
use Rattle.psi_tables.specs.declared.pat.programs.Program.{Program}
use Rattle.pid_findings.specs.Views.{FindingView}
use Rattle.program_tables.specs.Association.{entries_of, pat_found, with_programs}
use Rattle.program_tables.specs.MapPlaces.{places_with, program_found}

-- the version of the first association table, the programs that tables of this version name, the places of maps by key
pub record KnownView : Type 0 where
  pub version : Option ℕ
  pub programs : List Program
  pub places : List (ℕ × ℕ)

abbrev pub nothing : KnownView
nothing = record { version = None; programs = []; places = [] }

-- the version after another finding, with its table, if it has one
unfoldable pub version_with : Option ℕ → Option PatView → Option ℕ
version_with (Some version) found = Some version
version_with None None = None
version_with None (Some pat) = Some pat.header.version_number

unfoldable pub programs_with : Option ℕ → List Program → Option PatView → List Program
programs_with None programs found = programs
programs_with (Some version) programs found = with_programs programs (entries_of version found)

abbrev pub known_with : KnownView → ℕ → FindingView → KnownView
known_with known at f = record {
  version = version_with known.version (pat_found f);
  programs = programs_with (version_with known.version (pat_found f)) known.programs (pat_found f);
  places = places_with known.places (program_found f) at;
}

-- the tables with further findings; the first has the place `at`
unfoldable pub known_from : KnownView → ℕ → List FindingView → KnownView
known_from known at [] = known
known_from known at (f ∷ fs) = known_from (known_with known at f) (at + 1) fs

abbrev pub known_in : List FindingView → KnownView
known_in findings = known_from nothing 0 findings
