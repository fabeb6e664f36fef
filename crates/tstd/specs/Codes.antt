-- The numbers of the refusals.
use Rattle.std.specs.Prelude.{ℕ, Option, Some, None}
use Rattle.tstd.specs.declared.refusal.MeasureError.{MeasureError}
use Rattle.tstd.specs.declared.refusal.MeasureError.TheVariants.{Length, Packet, Carried, Memory}

-- the number of a refusal; out of memory has none
abbrev pub code_of : MeasureError → Option ℕ
code_of Length = Some 1
code_of (Packet index error) = Some 2
code_of Carried = Some 3
code_of Memory = None
