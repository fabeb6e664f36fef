-- Why DTS are not made.
use Rattle.std.specs.Prelude.{◌≡◌, ℕ, Some, List}
use Rattle.es_moments.specs.MadeDts.{dts_fault}
use Rattle.es_moments.specs.declared.dts_from_pts.DtsError.{DtsError}
use Rattle.es_moments.specs.declared.dts_from_pts.DtsError.TheVariants as errors

-- there was no memory, or the PTS have a fault
abbrev pub IsDtsError : List ℕ → DtsError → Type 0
IsDtsError stamps errors.Memory = Unit {0}
IsDtsError stamps (errors.Fault fault) = dts_fault stamps ≡ Some fault
