use Rattle.std.proofs.Common.{arith}
use Rattle.tstd.specs.declared.buffered_units.BufferedUnit.{BufferedUnit}
use Rattle.tstd.proofs.BufferCounts.{bytes_next, until_next, bytes_end, until_end}
use Rattle.tstd.proofs.buffered_units.tally.Goals as goal

pub overflow_add-bytes : goal.overflow_add-bytes
overflow_add-bytes c = let inv = c.loop-unit.invariant in
    omega (arith, inv.bytes, bytes_next c.args.units.now c.loop-unit.unit-index (record { until = 0; bytes = 0 }) c.loop-unit-test.true, c.requires)

pub loop-unit-preserved : goal.loop-unit-preserved
loop-unit-preserved c =
    let inv = c.loop-unit.invariant in
    let units = c.args.units.now in
    let at = c.loop-unit.unit-index in
    let none : BufferedUnit = record { until = 0; bytes = 0 } in
    let least = c.min-until.ensures in
    record {
      bytes = omega (arith, inv.bytes, bytes_next units at none c.loop-unit-test.true);
      until = λ n le rest. inv.until n (omega (arith, least, le)) (until_next units at none n c.loop-unit-test.true (omega (arith, least, le)) rest);
    }

pub returns-clause-bytes : goal.returns-clause-bytes
returns-clause-bytes c = let inv = c.loop-unit.invariant in
    omega (arith, inv.bytes, bytes_end c.args.units.now c.loop-unit.unit-index c.loop-unit-test.false)

pub returns-clause-until : goal.returns-clause-until
returns-clause-until c = let inv = c.loop-unit.invariant in
    inv.until c.loop-unit.until (omega arith) (until_end c.args.units.now c.loop-unit.unit-index c.loop-unit.until c.loop-unit-test.false)
