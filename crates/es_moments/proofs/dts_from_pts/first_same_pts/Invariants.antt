use Rattle.std.proofs.Common.{◌≡◌, length}
use Rattle.es_moments.specs.MadeDts.{first_same_pts}
use Rattle.es_moments.proofs.dts_from_pts.first_same_pts.Given as goal

abbrev pub invariant-loop-first : goal.invariant-loop-first
invariant-loop-first l = first_same_pts l.order ≡ first_same_pts l.left

abbrev pub decreases-loop-first : goal.decreases-loop-first
decreases-loop-first l = length l.left
