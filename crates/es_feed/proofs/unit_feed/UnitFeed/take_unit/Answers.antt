use Rattle.std.proofs.Common.{◌≡◌, ◌<◌, ◌++◌, ◌∙◌, None, List, length, sym, ap, rules, arith}
use Rattle.pid_findings.specs.Shown.{finding_view}
use Rattle.fed_streams.specs.Feeding.{FedStreamView, FeedView, due_of, place_from, after_unit, fed_unit, seen_in}
use Rattle.fed_streams.proofs.FedUnits.{no_place_after, no_place_fed, no_place_seen, placed_after, placed_fed, placed_seen}
use Rattle.es_feed.proofs.unit_feed.UnitFeed.take_unit.Goals as goal

pub returns-in_default-clause-feed : goal.returns-in_default-clause-feed
returns-in_default-clause-feed c =
    let f = finding_view c.args.finding.now in
    let none : c.place_of.result ≡ None = search rules in
    let at : None ≡ place_from f.pid 0 c.self.inside.streams.items =
    sym none ∙ c.place_of.ensures.value ∙ ap (λ (ss : List FedStreamView). place_from f.pid 0 ss) c.deref.ensures.value in
    let own : c.self.inside.streams.items ≡ c.args.self.now.streams = ap (λ (v : FeedView). v.streams) c.self.view_is in
    no_place_after c.args.self.now f (at ∙ ap (λ (ss : List FedStreamView). place_from f.pid 0 ss) own)

pub returns-in_default-clause-fed : goal.returns-in_default-clause-fed
returns-in_default-clause-fed c =
    let f = finding_view c.args.finding.now in
    let none : c.place_of.result ≡ None = search rules in
    let at : None ≡ place_from f.pid 0 c.self.inside.streams.items =
    sym none ∙ c.place_of.ensures.value ∙ ap (λ (ss : List FedStreamView). place_from f.pid 0 ss) c.deref.ensures.value in
    let own : c.self.inside.streams.items ≡ c.args.self.now.streams = ap (λ (v : FeedView). v.streams) c.self.view_is in
    no_place_fed c.args.self.now f c.args.fed.now.items (at ∙ ap (λ (ss : List FedStreamView). place_from f.pid 0 ss) own)

pub returns-in_default-clause-seen : goal.returns-in_default-clause-seen
returns-in_default-clause-seen c =
    let f = finding_view c.args.finding.now in
    let none : c.place_of.result ≡ None = search rules in
    let at : None ≡ place_from f.pid 0 c.self.inside.streams.items =
    sym none ∙ c.place_of.ensures.value ∙ ap (λ (ss : List FedStreamView). place_from f.pid 0 ss) c.deref.ensures.value in
    let own : c.self.inside.streams.items ≡ c.args.self.now.streams = ap (λ (v : FeedView). v.streams) c.self.view_is in
    no_place_seen c.args.self.now f (at ∙ ap (λ (ss : List FedStreamView). place_from f.pid 0 ss) own)

pub returns-clause-seen : goal.returns-clause-seen
returns-clause-seen c =
    let f = finding_view c.args.finding.now in
    let i = c.self.inside in
    let feed : FeedView =
    record {
      earliest = i.earliest;
      origin = i.origin;
      shown = i.shown;
      earlier = i.earlier;
      ticked = i.ticked;
      marking = i.marking;
      maps = i.maps.items;
      streams =
          i.streams.items;
      fallen = i.fallen;
    } in
    let due : c.due-due.result ≡ due_of feed = c.due-due.ensures.value ∙ ap (λ (v : FeedView). due_of v) (sym c.self.view_is) in
    let at = c.in-Some.ensures.value ∙ ap (λ (ss : List FedStreamView). place_from f.pid 0 ss) c.deref.ensures.value in
    let below : c.in-Some.k < length feed.streams = omega (arith, c.in-Some.ensures.bound, ap (length {A = FedStreamView}) c.deref.ensures.value) in
    c.seen_of-seen.ensures
    ∙ placed_seen feed f c.in-Some.k c.due-due.result c.in_ok-found.found.start c.in_ok-found.found.unit at below due c.in_ok-found.ensures.start
    c.in_ok-found.ensures.fed
    ∙ ap (λ (v : FeedView). seen_in v f) c.self.view_is

pub returns-clause-feed : goal.returns-clause-feed
returns-clause-feed c =
    let f = finding_view c.args.finding.now in
    let i = c.self.inside in
    let feed : FeedView =
    record {
      earliest = i.earliest;
      origin = i.origin;
      shown = i.shown;
      earlier = i.earlier;
      ticked = i.ticked;
      marking = i.marking;
      maps = i.maps.items;
      streams =
          i.streams.items;
      fallen = i.fallen;
    } in
    let due : c.due-due.result ≡ due_of feed = c.due-due.ensures.value ∙ ap (λ (v : FeedView). due_of v) (sym c.self.view_is) in
    let at = c.in-Some.ensures.value ∙ ap (λ (ss : List FedStreamView). place_from f.pid 0 ss) c.deref.ensures.value in
    let below : c.in-Some.k < length feed.streams = omega (arith, c.in-Some.ensures.bound, ap (length {A = FedStreamView}) c.deref.ensures.value) in
    placed_after feed f c.in-Some.k c.due-due.result c.take_at.new.origin c.take_at.new.streams.items at below due c.in_ok-found.ensures.streams
    c.in_ok-found.ensures.origin
    ∙ ap (λ (v : FeedView). after_unit v f) c.self.view_is

pub returns-clause-fed : goal.returns-clause-fed
returns-clause-fed c =
    let f = finding_view c.args.finding.now in
    let i = c.self.inside in
    let feed : FeedView =
    record {
      earliest = i.earliest;
      origin = i.origin;
      shown = i.shown;
      earlier = i.earlier;
      ticked = i.ticked;
      marking = i.marking;
      maps = i.maps.items;
      streams =
          i.streams.items;
      fallen = i.fallen;
    } in
    let due : c.due-due.result ≡ due_of feed = c.due-due.ensures.value ∙ ap (λ (v : FeedView). due_of v) (sym c.self.view_is) in
    let at = c.in-Some.ensures.value ∙ ap (λ (ss : List FedStreamView). place_from f.pid 0 ss) c.deref.ensures.value in
    let below : c.in-Some.k < length feed.streams = omega (arith, c.in-Some.ensures.bound, ap (length {A = FedStreamView}) c.deref.ensures.value) in
    placed_fed feed f c.in-Some.k c.due-due.result c.in_ok-found.found.unit c.in_ok-found.found.reported c.args.fed.now.items c.push_fed.new.fed.items
    c.push_fed-2.new.fed.items at below due
    c.in_ok-found.ensures.fed c.in_ok-found.ensures.reported c.in_ok-push_fed.ensures c.in_ok-push_fed-2.ensures
    ∙ ap (λ (v : FeedView). c.args.fed.now.items ++ fed_unit v f) c.self.view_is
