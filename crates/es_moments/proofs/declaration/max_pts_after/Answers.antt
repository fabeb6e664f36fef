use Rattle.std.proofs.Common.{arith}
use Rattle.clock27.proofs.MinMax.{max_is}
use Rattle.es_moments.proofs.UnitCounts.{pts_more, pts_end}
use Rattle.es_moments.proofs.declaration.max_pts_after.Goals as goal

pub loop-unit-preserved : goal.loop-unit-preserved
loop-unit-preserved g c =
    omega (
      arith,
      c.loop-unit.invariant,
      pts_more c.loop-unit.unit-index c.args.units.now c.unit-item.result c.loop-unit-test.true c.unit-item.is,
      c.pts_after.ensures,
      c.max-greatest.ensures,
      max_is c.loop-unit.greatest c.pts_after.result,
    )

pub returns : goal.returns
returns g c = omega (arith, c.loop-unit.invariant, pts_end c.loop-unit.unit-index c.args.units.now c.loop-unit-test.false)
