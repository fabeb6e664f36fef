-- A description with other versions: the numbers of one table, and all else as it is.
use Rattle.std.specs.Prelude.{ℕ, List, Option, None, Some, slice_get, slice_set}
use Rattle.description_parts.specs.Described.{Described, DescribedProgram}
use Rattle.description_parts.specs.declared.versions.Versions.{Versions}

abbrev pub with_versions : Described → Versions → Described
with_versions d versions = record d { versions = versions }

abbrev pub with_programs : Described → List DescribedProgram → Described
with_programs d programs = record d { programs = programs }

abbrev pub with_pmt_version : ℕ → DescribedProgram → DescribedProgram
with_pmt_version version p = record p { pmt_version = version }

abbrev pub with_eit_count : ℕ → DescribedProgram → DescribedProgram
with_eit_count count p = record p { eit_count = count }

-- the program at a place has other numbers; all programs are as they are if there is no such place
abbrev pub numbered_if : (DescribedProgram → DescribedProgram) → ℕ → List DescribedProgram → Option DescribedProgram → List DescribedProgram
numbered_if numbered i ps None = ps
numbered_if numbered i ps (Some p) = slice_set ps i (numbered p)

abbrev pub numbered_at : (DescribedProgram → DescribedProgram) → ℕ → List DescribedProgram → List DescribedProgram
numbered_at numbered i ps = numbered_if numbered i ps (slice_get ps i)
