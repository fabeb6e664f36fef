use Rattle.std.proofs.Common.{◌≡◌, ◌++◌, length}
use Rattle.es_moments.specs.MadeDts.{with_dts}
use Rattle.es_moments.proofs.made_units.with_dts.Given as goal

abbrev pub invariant-units : goal.invariant-units
invariant-units g l = with_dts l.dts l.initial.left.items ≡ l.units.items ++ with_dts l.later l.left.items

abbrev pub decreases-units : goal.decreases-units
decreases-units g l = length l.left.items
