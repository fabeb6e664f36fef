use Rattle.std.proofs.Common.{◌≡◌, ◌∙◌, ◌*◌, ◌<◌, arith, sym, refl}
use Rattle.tstd.specs.DepartureWalk.{left_ahead, walk_residence}
use Rattle.tstd.proofs.DepartureWalks.{walk_ended, walk_longest, walk_given, walk_given_longest}
use Rattle.tstd.proofs.departures.Departures.next.Goals as goal

pub returns-then-not-enter_packet-clause-ahead : goal.returns-then-not-enter_packet-clause-ahead
returns-then-not-enter_packet-clause-ahead c =
    let e = c.if-not-enter_packet.ensures in
    let inv = c.loop-self.invariant in
    sym inv.ahead ∙ sym c.enter_packet.ensures.ahead ∙ walk_ended c.enter_packet.new.self e.ended e.none

pub returns-then-not-enter_packet-clause-ended : goal.returns-then-not-enter_packet-clause-ended
returns-then-not-enter_packet-clause-ended c =
    let e = c.if-not-enter_packet.ensures in
    walk_longest c.enter_packet.new.self e.ended e.none

pub returns-clause-ahead : goal.returns-clause-ahead
unfolding left_ahead
returns-clause-ahead c =
    let e = c.arrive-time.ensures in
    let w = c.loop-self.self in
    let time : c.from.result * c.from-2.result ≡ w.byte * w.rx = rw (c.from.ensures, c.from-2.ensures) refl in
    let some : 0 < w.left = omega (arith, c.loop-self-test.false) in
    sym c.loop-self.invariant.ahead ∙ walk_given w c.arrive-time.new.self c.arrive-time.result some (rw time at e.left) (rw time at e.state)

pub returns-clause-longest_residence : goal.returns-clause-longest_residence
unfolding walk_residence
returns-clause-longest_residence c =
    let e = c.arrive-time.ensures in
    let w = c.loop-self.self in
    let time : c.from.result * c.from-2.result ≡ w.byte * w.rx = rw (c.from.ensures, c.from-2.ensures) refl in
    let some : 0 < w.left = omega (arith, c.loop-self-test.false) in
    walk_given_longest w c.arrive-time.new.self some (rw time at e.state) ∙ c.loop-self.invariant.longest_residence

pub returns-then-not-enter_packet-clause-none : goal.returns-then-not-enter_packet-clause-none
returns-then-not-enter_packet-clause-none c =
    let e = c.if-not-enter_packet.ensures in
    walk_ended c.enter_packet.new.self e.ended e.none
