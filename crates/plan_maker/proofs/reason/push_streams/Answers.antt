use Rattle.std.proofs.Common.{◌≡◌, ◌<◌, ◌≤◌, length, get_or}
use Rattle.plan_maker.specs.Reasons.{stream_reason}
use Rattle.plan_maker.proofs.GrowingLists.{parts_pushed, all_parts_pushed}
use Rattle.plan_maker.proofs.reason.push_streams.Goals as goal

pub loop-i-preserved : goal.loop-i-preserved
loop-i-preserved g c =
    let d = c.args.description.now in
    let x = c.stream-item.result in
    let i = c.loop-i.i in
    let at : x ≡ get_or d.streams i x = rw c.streams-stream-items.ensures.value at c.stream-item.is in
    let below : i < length d.streams = rw c.streams-stream-items.ensures.value at c.loop-i-test.true in
    rw (c.in_ok-push_stream.ensures) (parts_pushed (stream_reason d) d.streams _ c.loop-i.reasons.items i x below at c.loop-i.invariant)

pub returns : goal.returns
returns g c =
    let d = c.args.description.now in
    let over : length d.streams ≤ c.loop-i.i = rw c.streams-stream-items.ensures.value at c.loop-i-test.false in
    all_parts_pushed (stream_reason d) d.streams _ c.loop-i.reasons.items c.loop-i.i over c.loop-i.invariant
