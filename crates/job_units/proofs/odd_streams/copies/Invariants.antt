use Rattle.std.proofs.Common.{◌≡◌, take}
use Rattle.job_units.proofs.odd_streams.copies.Given as goal

abbrev pub invariant-loop-unit : goal.invariant-loop-unit
invariant-loop-unit l = l.copies.items ≡ take l.unit-index l.units
