use Rattle.std.proofs.Common.{◌≡◌, ◌<◌, ◌++◌, ◌∙◌, length, sym, ap, subst}
use Rattle.fed_streams.specs.Feeding.{FeedView, due_of}
use Rattle.fed_streams.specs.Ticks.{after_end, fed_end}
use Rattle.fed_streams.proofs.FedTicks.{ended_after, ended_fed}
use Rattle.es_feed.proofs.unit_feed.UnitFeed.end_at.Goals as goal

pub returns-clause-feed : goal.returns-clause-feed
returns-clause-feed c =
    let i = c.self.inside in
    let feed : FeedView =
    record {
      earliest = i.earliest;
      origin = i.origin;
      shown = i.shown;
      earlier = i.earlier;
      ticked = i.ticked;
      marking = i.marking;
      maps = i.maps.items;
      streams =
          i.streams.items;
      fallen = i.fallen;
    } in
    let due : c.due-due.result ≡ due_of feed = c.due-due.ensures.value ∙ ap (λ (v : FeedView). due_of v) (sym c.self.view_is) in
    let below : c.args.k < length feed.streams = subst (λ (v : FeedView). c.args.k < length v.streams) (sym c.self.view_is) c.requires in
    ended_after feed c.args.k c.due-due.result c.end_at-one.new.origin c.end_at-one.new.streams.items below due c.end_at-one.ensures.streams
    c.end_at-one.ensures.origin
    ∙ ap (λ (v : FeedView). after_end v c.args.k) c.self.view_is

pub returns-clause-fed : goal.returns-clause-fed
returns-clause-fed c =
    let i = c.self.inside in
    let feed : FeedView =
    record {
      earliest = i.earliest;
      origin = i.origin;
      shown = i.shown;
      earlier = i.earlier;
      ticked = i.ticked;
      marking = i.marking;
      maps = i.maps.items;
      streams =
          i.streams.items;
      fallen = i.fallen;
    } in
    let due : c.due-due.result ≡ due_of feed = c.due-due.ensures.value ∙ ap (λ (v : FeedView). due_of v) (sym c.self.view_is) in
    let below : c.args.k < length feed.streams = subst (λ (v : FeedView). c.args.k < length v.streams) (sym c.self.view_is) c.requires in
    ended_fed feed c.args.k c.due-due.result c.end_at-one.result c.args.fed.now.items c.push_fed.new.fed.items below due c.end_at-one.ensures.fed
    c.in_ok-push_fed.ensures
    ∙ ap (λ (v : FeedView). c.args.fed.now.items ++ fed_end v c.args.k) c.self.view_is
