use Rattle.std.proofs.Common.{arith}
use Rattle.job_units.proofs.FrameRests.{rest_more, rest_end, rest_most}
use Rattle.job_units.proofs.frame_rests.rest_after.Goals as goal

pub loop-unit-init : goal.loop-unit-init
loop-unit-init c = record { least = omega (arith, rest_most c.args.kind c.args.time c.args.due c.args.units.now); bound = omega arith }

pub loop-unit-preserved : goal.loop-unit-preserved
loop-unit-preserved c = record {
  least = rw c.last_due-last.ensures (omega (
    arith,
    c.loop-unit.invariant.least,
    rest_more c.args.kind c.args.time c.loop-unit.unit-index c.loop-unit.last c.args.units.now c.unit-item.result c.loop-unit-test.true c.unit-item.is,
    c.time_after.ensures,
    c.shorter-least.ensures,
  ));
  bound = omega (arith, c.loop-unit.invariant.bound, c.shorter-least.ensures);
}

pub returns-clause-value : goal.returns-clause-value
returns-clause-value c = omega (
  arith,
  c.loop-unit.invariant.least,
  c.loop-unit.invariant.bound,
  rest_end c.args.kind c.args.time c.loop-unit.unit-index c.loop-unit.last c.args.units.now c.loop-unit-test.false,
)
