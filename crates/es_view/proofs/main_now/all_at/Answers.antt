use Rattle.std.proofs.Common.{◌∙◌, arith}
use Rattle.tstd.specs.declared.buffered_units.BufferedUnit.{BufferedUnit}
use Rattle.es_view.proofs.MainNow.{all_fewer, buffered_end, buffered_next}
use Rattle.es_view.proofs.main_now.all_at.Goals as goal

pub overflow_add-bytes : goal.overflow_add-bytes
overflow_add-bytes c =
    let none : BufferedUnit = record { until = 0; bytes = 0 } in
    omega (
      arith,
      c.loop-unit.invariant,
      c.bytes_at-bytes.ensures,
      buffered_next c.args.moment c.args.units.now c.loop-unit.unit-index none c.loop-unit-test.true,
      all_fewer c.args.moment c.args.units.now,
      c.requires,
    )

pub loop-unit-preserved : goal.loop-unit-preserved
loop-unit-preserved c =
    let none : BufferedUnit = record { until = 0; bytes = 0 } in
    omega (
      arith,
      c.loop-unit.invariant,
      c.bytes_at-bytes.ensures,
      buffered_next c.args.moment c.args.units.now c.loop-unit.unit-index none c.loop-unit-test.true,
    )

pub returns : goal.returns
returns c = omega (arith, c.loop-unit.invariant, buffered_end c.args.moment c.args.units.now c.loop-unit.unit-index c.loop-unit-test.false)
