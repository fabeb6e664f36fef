use Rattle.std.proofs.Common.{◌≡◌, ◌<◌, ◌≤◌, length, get_or, ap, ◌∙◌}
use Rattle.slot_plan.specs.declared.slot.Slot.TheVariants.{Stream}
use Rattle.plan_maker.specs.Spacings.{spacing, stream_room}
use Rattle.plan_maker.proofs.GrowingLists.{pushed, all_pushed}
use Rattle.plan_maker.proofs.spacing.push_streams.Goals as goal

pub loop-i-preserved : goal.loop-i-preserved
loop-i-preserved g c =
    let d = c.args.description.now in
    let x = c.stream-item.result in
    let i = c.loop-i.i in
    let at : x ≡ get_or d.streams i x = rw c.streams-stream-items.ensures.value at c.stream-item.is in
    let below : i < length d.streams = rw c.streams-stream-items.ensures.value at c.loop-i-test.true in
    let is : c.spacing_of-spacing.result ≡ spacing (stream_room d x) = c.spacing_of-spacing.ensures.spacing ∙ ap spacing c.stream_room.ensures in
    rw (c.in_ok-push.ensures.items, is)
    (pushed (λ i x. record { slot = Stream i; spacing = spacing (stream_room d x) }) d.streams _ c.loop-i.items.items i x below at c.loop-i.invariant)

pub returns : goal.returns
returns g c =
    let d = c.args.description.now in
    let over : length d.streams ≤ c.loop-i.i = rw c.streams-stream-items.ensures.value at c.loop-i-test.false in
    all_pushed (λ i x. record { slot = Stream i; spacing = spacing (stream_room d x) }) d.streams _ c.loop-i.items.items c.loop-i.i over c.loop-i.invariant
