use Rattle.std.proofs.Common.{◌<◌, length, arith}
use Rattle.circular_buffer.proofs.Places.{slice_get-some}
use Rattle.description_parts.specs.Tables.{table_kinds}
use Rattle.plan_checker.proofs.Counts.{few_tables}
use Rattle.mux_core.specs.LineUpSteps.{table_number_before}
use Rattle.mux_core.proofs.ExchangedItems.{each_count, one_each}
use Rattle.mux_core.proofs.line_up_parts.tables_before.Goals as goal

pub push-requires : goal.push-requires
push-requires c =
    let le : c.loop-number.number < length (table_kinds c.args.new.now) = omega (arith, c.loop-number-test.true, c.tables-number-end.ensures) in
    let count = each_count (table_number_before c.args.old.now c.args.new.now) (table_kinds c.args.new.now) c.loop-number.numbers.items c.loop-number.number (omega (arith, le))
    c.loop-number.invariant in
    (omega arith, omega (arith, count, le, few_tables c.args.new.now c.keeps_ranges.ensures))

pub loop-number-preserved : goal.loop-number-preserved
loop-number-preserved c =
    let le : c.loop-number.number < length (table_kinds c.args.new.now) = omega (arith, c.loop-number-test.true, c.tables-number-end.ensures) in
    let there = slice_get-some (table_kinds c.args.new.now) c.loop-number.number le in
    rw c.push.ensures.items
    (one_each (table_number_before c.args.old.now c.args.new.now) (table_kinds c.args.new.now) c.loop-number.numbers.items c.loop-number.number there.0 c.table_before.result
    c.loop-number.invariant there.1 c.table_before.ensures)
