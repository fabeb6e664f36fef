use Rattle.std.proofs.Common.{◌≡◌, ◌∙◌, List, OnOk, Result, Ok, Err}
use Rattle.demux.specs.Stream.{found_in, taken}
use Rattle.packet_pcr.specs.PacketPcr.{pcr_at}
use Rattle.fed_streams.specs.Feeding.{Fed, FeedView}
use Rattle.es_feed.proofs.AlikeStreams.{then_alike}
use Rattle.es_feed.proofs.packet_feed.PacketFeed.take_next.Goals as goal

feed_stays : {V E : Type 0} (result : Result V E) (x y z : FeedView) → x ≡ y → y ≡ z → OnOk result (x ≡ z)
feed_stays (Ok v) x y z e f = e ∙ f
feed_stays (Err v) x y z e f = tt

fed_stays : {V E : Type 0} (result : Result V E) (xs ys : List Fed) → xs ≡ ys → OnOk result (xs ≡ ys)
fed_stays (Ok v) xs ys e = e
fed_stays (Err v) xs ys e = tt

pub returns-clause-demux : goal.returns-clause-demux
returns-clause-demux c =
    let old = c.args.self.now in
    let bytes = c.args.bytes.now in
    then_alike c.leave_out.result old.feed c.take.new.self.feed (taken old.demux bytes) c.take.new.self.demux c.leave_out.new.self.demux
    (found_in old.demux bytes) (pcr_at old.demux.packets bytes) c.in_ok-take.ensures.0 c.in_ok-take.ensures.1 c.leave_out.ensures.demux

pub returns-clause-feed : goal.returns-clause-feed
returns-clause-feed c = feed_stays c.leave_out.result c.leave_out.new.self.feed c.take.new.self.feed _ c.leave_out.ensures.feed c.in_ok-take.ensures.1

pub returns-clause-fed : goal.returns-clause-fed
returns-clause-fed c = fed_stays c.leave_out.result c.take.new.fed.items _ c.in_ok-take.ensures.2
