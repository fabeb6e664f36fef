use Rattle.std.proofs.Common.{◌∙◌, subst}
use Rattle.es_feed.specs.StreamFeeding.{AreAlike, PacketFeedView}
use Rattle.es_feed.proofs.AlikeStreams.{left_alike}
use Rattle.es_feed.proofs.packet_feed.PacketFeed.leave_out.Goals as goal

pub returns-clause-demux : goal.returns-clause-demux
returns-clause-demux c =
    let i = c.self.inside in
    subst (λ (p : PacketFeedView). AreAlike p.feed c.leave_out_other_bodies.new.self p.demux) c.self.view_is
    (left_alike i.feed i.demux c.leave_out_other_bodies.new.self c.as_slice.result.now (c.as_slice.ensures.value ∙ c.in_ok-pids.ensures)
    c.leave_out_other_bodies.ensures)
