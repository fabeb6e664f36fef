use Rattle.std.proofs.Common.{◌≡◌, ◌++◌, subst}
use Rattle.es_feed.specs.StreamFeeding.{PacketFeedView, fed_rest}
use Rattle.es_feed.proofs.PidEnds.{ends_in_turn}
use Rattle.es_feed.proofs.packet_feed.PacketFeed.finish.Goals as goal

pub returns : goal.returns
returns c =
    let i = c.self.inside in
    let rest = c.args.rest.now in
    subst (λ (p : PacketFeedView). c.finish.new.fed.items ≡ c.args.fed.now.items ++ fed_rest p.demux p.feed rest) c.self.view_is
    (ends_in_turn i.demux c.push.new.self i.feed c.take_held.new.feed c.take_ends.new.feed rest c.args.fed.now.items c.take_held.new.fed.items
    c.take_ends.new.fed.items c.finish.new.fed.items
    c.requires c.self.invariant.0 c.self.invariant.2 c.in-Ok.ensures.open c.in-Ok.ensures.ok
    c.in_ok-take_held.ensures.feed c.in_ok-take_held.ensures.fed c.in_ok-take_ends.ensures.feed c.in_ok-take_ends.ensures.fed c.in_ok-finish.ensures)
