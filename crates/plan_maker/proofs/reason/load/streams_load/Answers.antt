use Rattle.std.proofs.Common.{◌≡◌, ◌<◌, length, get_or, arith}
use Rattle.plan_maker.specs.Loads.{stream_load}
use Rattle.plan_maker.proofs.LoadSums.{total_more}
use Rattle.plan_maker.proofs.reason.load.streams_load.Goals as goal

pub loop-i-preserved : goal.loop-i-preserved
loop-i-preserved c =
    let d = c.args.description.now in
    let x = c.stream-item.result in
    let i = c.loop-i.i in
    let at : x ≡ get_or d.streams i x = rw c.streams-stream-items.ensures.value at c.stream-item.is in
    let below : i < length d.streams = rw c.streams-stream-items.ensures.value at c.loop-i-test.true in
    record {
      summed = omega (arith, c.loop-i.invariant.summed, c.stream_load-total.ensures.load, total_more (λ _ s. stream_load c.args.rate s) d.streams i x below at);
      bound = omega (arith, c.loop-i.invariant.bound, c.stream_load-total.ensures.bound);
    }
