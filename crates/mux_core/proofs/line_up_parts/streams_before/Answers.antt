use Rattle.std.proofs.Common.{◌<◌, List, length, ap, arith}
use Rattle.circular_buffer.proofs.Places.{slice_get-some}
use Rattle.description_parts.specs.Described.{DescribedStream}
use Rattle.mux_core.specs.LineUpSteps.{stream_number_before}
use Rattle.mux_core.proofs.ExchangedItems.{each_count, one_each}
use Rattle.mux_core.proofs.line_up_parts.streams_before.Goals as goal

pub push-requires : goal.push-requires
push-requires c =
    let le : c.loop-number.number < length c.args.new.now.streams =
    omega (arith, c.loop-number-test.true, ap (λ (l : List DescribedStream). length l) c.streams-number-end.ensures.value) in
    let count = each_count (stream_number_before c.args.old.now c.args.new.now) c.args.new.now.streams c.loop-number.numbers.items c.loop-number.number (omega (arith, le))
    c.loop-number.invariant in
    (omega arith, omega (arith, count, le, c.keeps_ranges.ensures.most_streams))

pub loop-number-preserved : goal.loop-number-preserved
loop-number-preserved c =
    let le : c.loop-number.number < length c.args.new.now.streams =
    omega (arith, c.loop-number-test.true, ap (λ (l : List DescribedStream). length l) c.streams-number-end.ensures.value) in
    let there = slice_get-some c.args.new.now.streams c.loop-number.number le in
    rw c.push.ensures.items
    (one_each (stream_number_before c.args.old.now c.args.new.now) c.args.new.now.streams c.loop-number.numbers.items c.loop-number.number there.0 c.stream_before.result
    c.loop-number.invariant there.1 c.stream_before.ensures)
