use Rattle.std.proofs.Common.{◌≡◌, max, drop}
use Rattle.es_moments.specs.Declaration.{max_pts_after}
use Rattle.es_moments.proofs.declaration.max_pts_after.Given as goal

abbrev pub invariant-loop-unit : goal.invariant-loop-unit
invariant-loop-unit g l = max_pts_after l.units ≡ max l.greatest (max_pts_after (drop l.unit-index l.units))
