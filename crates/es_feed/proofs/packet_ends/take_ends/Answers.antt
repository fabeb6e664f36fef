use Rattle.std.proofs.Common.{◌<◌, ◌≤◌, length, refl, sym, subst, arith, add-one}
use Rattle.es_feed.proofs.PidEnds.{EndsSoFar, end_more, ends_fed, ends_feed}
use Rattle.es_feed.proofs.packet_ends.take_ends.Goals as goal

pub loop-i-init : goal.loop-i-init
loop-i-init c = record { feed_is = refl; fed_is = refl }

pub loop-i-preserved : goal.loop-i-preserved
loop-i-preserved c =
    let demux = c.args.demux.now in
    let less : c.loop-i.i < length demux.states = omega (arith, c.loop-i-test.true, c.pids-i-end.ensures) in
    subst (λ n. EndsSoFar demux.packets n demux.states c.args.feed.now c.args.fed.now.items c.take_end.new.feed c.take_end.new.fed.items)
    (sym (add-one c.loop-i.i))
    (end_more demux.packets c.loop-i.i demux.states c.args.feed.now c.args.fed.now.items c.loop-i.feed c.take_end.new.feed c.loop-i.fed.items
    c.take_end.new.fed.items less c.in_ok-take_end.ensures.feed c.in_ok-take_end.ensures.fed c.loop-i.invariant)

pub returns-clause-feed : goal.returns-clause-feed
returns-clause-feed c =
    let demux = c.args.demux.now in
    let past : length demux.states ≤ c.loop-i.i = omega (arith, c.loop-i-test.false, c.pids-i-end.ensures) in
    ends_feed demux.packets c.loop-i.i demux.states c.args.feed.now c.args.fed.now.items c.loop-i.feed c.loop-i.fed.items past c.loop-i.invariant

pub returns-clause-fed : goal.returns-clause-fed
returns-clause-fed c =
    let demux = c.args.demux.now in
    let past : length demux.states ≤ c.loop-i.i = omega (arith, c.loop-i-test.false, c.pids-i-end.ensures) in
    ends_fed demux.packets c.loop-i.i demux.states c.args.feed.now c.args.fed.now.items c.loop-i.feed c.loop-i.fed.items past c.loop-i.invariant
