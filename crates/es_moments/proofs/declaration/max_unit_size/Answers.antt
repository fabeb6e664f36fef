use Rattle.std.proofs.Common.{arith}
use Rattle.clock27.proofs.MinMax.{max_is}
use Rattle.es_moments.proofs.UnitCounts.{size_more, size_end}
use Rattle.es_moments.proofs.declaration.max_unit_size.Goals as goal

pub loop-unit-preserved : goal.loop-unit-preserved
loop-unit-preserved g c = record {
  greatest = omega (
    arith,
    c.loop-unit.invariant.greatest,
    size_more c.loop-unit.unit-index c.args.units.now c.unit-item.result c.loop-unit-test.true c.unit-item.is,
    c.size_of.ensures.value,
    c.max-greatest.ensures,
    max_is c.loop-unit.greatest c.size_of.result,
  );
  bound = omega (arith, c.loop-unit.invariant.bound, c.size_of.ensures.bound, c.max-greatest.ensures, max_is c.loop-unit.greatest c.size_of.result);
}

pub returns-clause-value : goal.returns-clause-value
returns-clause-value g c = omega (arith, c.loop-unit.invariant.greatest, size_end c.loop-unit.unit-index c.args.units.now c.loop-unit-test.false)
