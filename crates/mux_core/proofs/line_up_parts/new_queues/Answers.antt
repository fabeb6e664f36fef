use Rattle.std.proofs.Common.{◌≡◌, ◌∙◌, ℕ, Some, length, sym, ap, arith}
use Rattle.std.proofs.lemmas.Option.{slice_get-get_or}
use Rattle.mux_core.specs.LineUpSteps.{fresh_queue}
use Rattle.mux_core.proofs.ExchangedItems.{each_count, one_each, each_at_end}
use Rattle.mux_core.proofs.FirstStates.{parameters_here}
use Rattle.mux_core.proofs.line_up_parts.new_queues.Goals as goal

pub fresh_queue-requires-clause-number : goal.fresh_queue-requires-clause-number
fresh_queue-requires-clause-number g c =
    let within = rw c.streams-stream-items.ensures.value at c.loop-stream-test.true in
    let count : length c.loop-stream.queues.items ≡ c.loop-stream.stream-index =
    each_count (fresh_queue c.args.old.now c.args.new.now c.args.capacity) c.args.new.now.streams c.loop-stream.queues.items c.loop-stream.stream-index
    (omega (arith, within)) c.loop-stream.invariant in
    omega (arith, count, within, c.len-number.ensures, c.loop-stream.queues.ok.0)

pub fresh_queue-requires-clause-range : goal.fresh_queue-requires-clause-range
fresh_queue-requires-clause-range g c =
    let at = rw c.streams-stream-items.ensures.value at c.stream-item.is in
    parameters_here c.args.new.now c.loop-stream.stream-index c.stream-item.result c.keeps_ranges.ensures at
    (rw c.streams-stream-items.ensures.value at c.loop-stream-test.true)

pub loop-stream-preserved : goal.loop-stream-preserved
loop-stream-preserved g c =
    let f = fresh_queue c.args.old.now c.args.new.now c.args.capacity in
    let at = rw c.streams-stream-items.ensures.value at c.stream-item.is in
    let within = rw c.streams-stream-items.ensures.value at c.loop-stream-test.true in
    let count : length c.loop-stream.queues.items ≡ c.loop-stream.stream-index =
    each_count f c.args.new.now.streams c.loop-stream.queues.items c.loop-stream.stream-index (omega (arith, within)) c.loop-stream.invariant in
    let number : c.len-number.result ≡ c.loop-stream.stream-index = omega (arith, count, c.len-number.ensures, c.loop-stream.queues.ok.0) in
    rw c.in_ok-push.ensures.items
    (one_each f c.args.new.now.streams c.loop-stream.queues.items c.loop-stream.stream-index c.stream-item.result c.in_ok-fresh_queue.field-0
    c.loop-stream.invariant
    (slice_get-get_or c.args.new.now.streams c.loop-stream.stream-index c.stream-item.result within ∙ ap Some (sym at))
    (c.in_ok-fresh_queue.ensures ∙ ap (λ (n : ℕ). f n c.stream-item.result) number))

pub returns : goal.returns
returns g c =
    each_at_end (fresh_queue c.args.old.now c.args.new.now c.args.capacity) c.args.new.now.streams c.loop-stream.queues.items c.loop-stream.stream-index
    (rw c.streams-stream-items.ensures.value at c.loop-stream-test.false) c.loop-stream.invariant
