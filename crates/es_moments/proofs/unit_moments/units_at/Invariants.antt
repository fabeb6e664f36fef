use Rattle.std.proofs.Common.{◌≡◌, ◌++◌, length}
use Rattle.es_moments.specs.UnitMoments.{units_at}
use Rattle.es_moments.proofs.unit_moments.units_at.Given as goal

abbrev pub invariant-units : goal.invariant-units
invariant-units g l = units_at l.moments l.initial.left.items ≡ l.units.items ++ units_at l.later l.left.items

abbrev pub decreases-units : goal.decreases-units
decreases-units g l = length l.left.items
