use Rattle.std.proofs.Common.{◌≡◌, drop}
use Rattle.es_moments.specs.MadeDts.{first_late_pts}
use Rattle.es_moments.proofs.dts_from_pts.first_late_pts.Given as goal

abbrev pub invariant-loop-index : goal.invariant-loop-index
invariant-loop-index l = first_late_pts l.shift 0 l.order l.moments ≡ first_late_pts l.shift l.index l.later (drop l.index l.moments)
