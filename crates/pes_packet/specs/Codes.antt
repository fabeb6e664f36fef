-- The numbers of the refusals.
use Rattle.std.specs.Prelude.{ℕ}
use Rattle.pes_packet.specs.declared.refusal.PesError.{PesError}
use Rattle.pes_packet.specs.declared.refusal.PesError.TheVariants.{Short, Prefix, BadFlags, Marker, Length}

-- the number of a refusal
abbrev pub code_of : PesError → ℕ
code_of Short = 1
code_of Prefix = 2
code_of BadFlags = 3
code_of Marker = 4
code_of Length = 5
