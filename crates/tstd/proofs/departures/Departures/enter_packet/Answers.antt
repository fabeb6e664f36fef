use Rattle.std.proofs.Common.{◌≡◌, ◌∙◌, ◌+◌, ◌-◌, ◌*◌, ◌<◌, ◌≤◌, length, arith, sym, ap}
use Rattle.clock27.specs.Arrival.{bytes_from}
use Rattle.tstd.specs.DepartureWalk.{left_ahead, walk_residence, left_from, residence_from}
use Rattle.tstd.proofs.QueueStates.{passed-step}
use Rattle.tstd.proofs.DepartureWalks.{go_into, go_into_longest, go_past}
use Rattle.tstd.proofs.departures.Departures.enter_packet.Goals as goal

pub returns-in-Some-size_on-clause-ahead : goal.returns-in-Some-size_on-clause-ahead
unfolding left_ahead
returns-in-Some-size_on-clause-ahead c =
    go_into c.args.self.now c.in-Some.packet.now c.in-Some.packets.now c.in-Some-size_on.size c.arrive_row.new.queue c.requires c.in-Some.ensures.cases.0
    (sym c.size_on.ensures.size ∙ c.in-Some-size_on.is) c.in-Some-size_on.ensures.bound c.arrive_row.ensures.state

pub returns-in-Some-size_on-clause-longest_residence : goal.returns-in-Some-size_on-clause-longest_residence
unfolding walk_residence
returns-in-Some-size_on-clause-longest_residence c =
    go_into_longest c.args.self.now c.in-Some.packet.now c.in-Some.packets.now c.in-Some-size_on.size c.arrive_row.new.queue c.requires
    c.in-Some.ensures.cases.0
    (sym c.size_on.ensures.size ∙ c.in-Some-size_on.is) c.in-Some-size_on.ensures.bound c.arrive_row.ensures.state

pub returns-in_default-size_on-clause-ahead : goal.returns-in_default-size_on-clause-ahead
unfolding left_ahead
returns-in_default-size_on-clause-ahead c =
    let w = c.args.self.now in
    ap (left_from w.queue.step w.queue.last w.rx w.byte w.left)
    (go_past w c.in-Some.packet.now c.in-Some.packets.now c.in-Some.ensures.cases.0 (sym c.size_on.ensures.size ∙ c.in_default-size_on.is))

pub returns-in_default-size_on-clause-longest_residence : goal.returns-in_default-size_on-clause-longest_residence
unfolding walk_residence
returns-in_default-size_on-clause-longest_residence c =
    let w = c.args.self.now in
    ap (residence_from w.queue.step w.queue.last w.queue.longest_residence w.rx w.byte w.left)
    (go_past w c.in-Some.packet.now c.in-Some.packets.now c.in-Some.ensures.cases.0 (sym c.size_on.ensures.size ∙ c.in_default-size_on.is))

pub returns-in-Some-size_on-clause-step : goal.returns-in-Some-size_on-clause-step
returns-in-Some-size_on-clause-step c =
    let w = c.args.self.now in
    rw c.arrive_row.ensures.state (passed-step w.queue (bytes_from w.rx (188 * w.index) (188 - c.in-Some-size_on.size)))

pub invariant_of-self : goal.invariant_of-self
invariant_of-self c =
    let w = c.args.self.now in
    let all : length w.packets.now ≡ length c.in-Some.packets.now + 1 = rw c.in-Some.ensures.cases.0 (omega arith) in
    let step : c.arrive_row.new.queue.step ≡ w.queue.step =
    rw c.arrive_row.ensures.state (passed-step w.queue (bytes_from w.rx (188 * w.index) (188 - c.in-Some-size_on.size))) in
    let bounded : w.index + length w.packets.now < 72057594037927936 = w.bounded in
    let some : 0 < w.queue.step = w.positive in
    let fits : c.in-Some-size_on.size ≤ 188 = c.in-Some-size_on.ensures.bound in
    let short : w.queue.step ≤ 20000000000000000 = w.step in
    record {
      slow = w.slow;
      positive = omega (arith, step, some);
      inner = c.arrive_row.ensures.longest_residence;
      step = omega (arith, step, short);
      inside = omega (arith, fits);
      bounded = omega (arith, all, bounded);
      paced = c.arrive_row.ensures.last;
    }
