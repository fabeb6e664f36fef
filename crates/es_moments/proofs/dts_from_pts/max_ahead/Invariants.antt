use Rattle.std.proofs.Common.{◌≡◌, max, drop}
use Rattle.es_moments.specs.MadeDts.{max_ahead}
use Rattle.es_moments.proofs.dts_from_pts.max_ahead.Given as goal

abbrev pub invariant-loop-moment : goal.invariant-loop-moment
invariant-loop-moment l = max_ahead l.order l.moments ≡ max l.greatest (max_ahead l.later (drop l.moment-index l.moments))
