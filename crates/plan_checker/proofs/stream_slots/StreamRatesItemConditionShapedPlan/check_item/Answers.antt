use Rattle.plan_checker.proofs.FailingSearch.{the_item}
use Rattle.plan_checker.proofs.stream_slots.StreamRatesItemConditionShapedPlan.check_item.Goals as goal

pub returns : goal.returns
returns g c x at =
    let is = rw c.streams.ensures.value at c.index-streams-i.is in
    let same = the_item c.args.plans.now.description.now.streams c.args.i x c.index-streams-i.result at is in
    let here = rw (
      c.rate_needed-needed.ensures,
      c.rate_given-given.ensures,
      c.steady_packets.ensures.packets,
      c.steady_time.ensures.time,
      c.own_count-count.ensures.count,
      c.len.ensures,
      c.of.ensures,
      c.bits_per_second-rate.ensures.value,
      c.rate.ensures,
    ) at c.at_most.ensures in
    rw (← same) here
