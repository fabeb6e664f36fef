use Rattle.mux_core.proofs.making.first_queues.Goals as goal
use Rattle.mux_core.proofs.FirstStates.{parameters_here, next_queue}

pub new-requires : goal.new-requires
new-requires g c =
    let at = rw c.streams-stream-items.ensures.value at c.stream-item.is in
    rw c.parameters_of-parameters.ensures
    (parameters_here c.args.description.now c.loop-stream.stream-index c.stream-item.result c.keeps_ranges.ensures at
    (rw c.streams-stream-items.ensures.value at c.loop-stream-test.true))

pub loop-stream-preserved : goal.loop-stream-preserved
loop-stream-preserved g c =
    let at = rw c.streams-stream-items.ensures.value at c.stream-item.is in
    rw (c.in_ok-push.ensures.items, c.in_ok-new.ensures.state, c.units_of-units.ensures, c.parameters_of-parameters.ensures)
    (next_queue c.args.description.now c.args.capacity c.loop-stream.stream-index c.loop-stream.queues.items c.stream-item.result at
    (rw c.streams-stream-items.ensures.value at c.loop-stream-test.true) c.loop-stream.invariant)
