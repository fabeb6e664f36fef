-- The number of an error.
use Rattle.std.specs.Prelude.{ℕ, Option, Some, None}
use Rattle.plan_maker.specs.declared.making.MakeError.{MakeError}
use Rattle.plan_maker.specs.declared.making.MakeError.TheVariants.{NotFound, Memory}

abbrev pub code_of : MakeError → Option ℕ
code_of NotFound = Some 1
code_of Memory = None
