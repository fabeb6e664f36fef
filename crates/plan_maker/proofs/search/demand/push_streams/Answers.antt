use Rattle.std.proofs.Common.{◌≡◌, ◌<◌, ◌≤◌, List, length, get_or, map, ap, ◌∙◌}
use Rattle.description_parts.specs.Described.{DescribedStream}
use Rattle.plan_maker.specs.Demands.{demand_view, stream_demand}
use Rattle.plan_maker.specs.StreamNeeds.{stream_view}
use Rattle.plan_maker.proofs.GrowingLists.{pushed, all_pushed}
use Rattle.plan_maker.proofs.DemandLists.{view_pushed, stream_demand_is}
use Rattle.plan_maker.proofs.search.demand.push_streams.Goals as goal

pub loop-i-preserved : goal.loop-i-preserved
loop-i-preserved g c =
    let d = c.args.description.now in
    let p = c.args.period in
    let x = c.stream-item.result in
    let i = c.loop-i.i in
    let at : x ≡ get_or d.streams i x = rw c.streams-stream-items.ensures.value at c.stream-item.is in
    let below : i < length d.streams = rw c.streams-stream-items.ensures.value at c.loop-i-test.true in
    let here : demand_view c.demand_of.result ≡ stream_demand d p i x =
    stream_demand_is d p i _ c.bits_per_second-rate.result _ x (stream_view c.new.result) c.demand_of.ensures c.new.ensures
    (c.bits_per_second-rate.ensures.value ∙ c.rate.ensures) (ap (λ (l : List DescribedStream). length l) c.streams-kind.ensures.value) in
    rw c.in_ok-push.ensures.items
    (view_pushed c.loop-i.demands.items c.demand_of.result _ here
    ∙ pushed (stream_demand d p) d.streams _ (map demand_view c.loop-i.demands.items) i x below at c.loop-i.invariant)

pub returns : goal.returns
returns g c =
    let d = c.args.description.now in
    let over : length d.streams ≤ c.loop-i.i = rw c.streams-stream-items.ensures.value at c.loop-i-test.false in
    all_pushed (stream_demand d c.args.period) d.streams _ (map demand_view c.loop-i.demands.items) c.loop-i.i over c.loop-i.invariant
