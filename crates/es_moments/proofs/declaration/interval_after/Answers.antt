use Rattle.std.proofs.Common.{arith}
use Rattle.es_moments.proofs.UnitCounts.{interval_more, interval_end, interval_most}
use Rattle.es_moments.proofs.declaration.interval_after.Goals as goal

pub loop-unit-init : goal.loop-unit-init
loop-unit-init g c = record { least = omega (arith, interval_most c.args.before c.args.units.now); bound = omega arith }

pub loop-unit-preserved : goal.loop-unit-preserved
loop-unit-preserved g c = record {
  least = rw c.dts_of-dts.ensures (omega (
    arith,
    c.loop-unit.invariant.least,
    interval_more c.loop-unit.unit-index c.loop-unit.last c.args.units.now c.unit-item.result c.loop-unit-test.true c.unit-item.is,
    c.dts_of-dts.ensures,
    c.saturating_sub.ensures,
    c.shorter-least.ensures,
  ));
  bound = omega (arith, c.loop-unit.invariant.bound, c.shorter-least.ensures);
}

pub returns-clause-value : goal.returns-clause-value
returns-clause-value g c = omega (
  arith,
  c.loop-unit.invariant.least,
  c.loop-unit.invariant.bound,
  interval_end c.loop-unit.unit-index c.loop-unit.last c.args.units.now c.loop-unit-test.false,
)
