-- A table of the numbers of programs.
use Rattle.std.specs.Prelude.{◌≡◌, ◌<◌, ℕ, Bool, false, List, slice_index_or}
use Rattle.psi_tables.specs.declared.pat.programs.Program.{Program}
use Rattle.program_tables.specs.Association.{is_named}

-- the list is true exactly at the program_numbers that are named
unfoldable pub MarksNamed : List Bool → List Program → Type 0
MarksNamed numbers programs = (number : ℕ) → number < 65536 → slice_index_or numbers number false ≡ is_named number programs
