-- The numbers of the refusals.
use Rattle.std.specs.Prelude.{ℕ}
use Rattle.psi_tables.specs.declared.error.SectionError.{SectionError}
use Rattle.psi_tables.specs.declared.error.SectionError.TheVariants.{Short, Length, CheckWord, Syntax, Body, TooLong}

-- the number of a refusal
abbrev pub code_of : SectionError → ℕ
code_of Short = 1
code_of Length = 2
code_of CheckWord = 3
code_of Syntax = 4
code_of Body = 5
code_of TooLong = 6
