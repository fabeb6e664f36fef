use Rattle.std.proofs.Common.{◌≡◌, take}
use Rattle.es_units.proofs.carried.carried_units.Given as goal

abbrev pub invariant-loop-unit : goal.invariant-loop-unit
invariant-loop-unit g l = l.units.items ≡ take l.unit-index l.unit-items
