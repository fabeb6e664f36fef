-- The limits of clocks: programs that share one need its references as often as the one with the least limit does.
use Rattle.std.specs.Prelude.{ℕ, min, if◌then◌else◌, fold}
use Rattle.description_parts.specs.Described.{Described, DescribedProgram}

-- the least of a limit and a program's, if the program shares a clock
abbrev pub with_sharer : ℕ → DescribedProgram → ℕ
with_sharer limit p = if p.has_clock then limit else min limit p.pcr_limit

-- the least limit of the programs on a program's clock, in ms (ISO/IEC 13818-1, 2.7.2)
abbrev pub clock_limit : Described → DescribedProgram → ℕ
clock_limit d p = if p.has_clock then p.pcr_limit else fold with_sharer p.pcr_limit d.programs
