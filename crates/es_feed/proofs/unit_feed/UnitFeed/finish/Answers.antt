use Rattle.std.proofs.Common.{◌≡◌, ◌++◌, ◌∙◌, [], List, ap, rules}
use Rattle.fed_streams.specs.declared.due.Due.{Due}
use Rattle.fed_streams.specs.Feeding.{FedStreamView, FeedView, due_of, fed_last}
use Rattle.fed_streams.proofs.FedUnits.{last_step, last_end}
use Rattle.es_feed.proofs.unit_feed.UnitFeed.finish.Goals as goal

pub streams-preserved : goal.streams-preserved
streams-preserved c =
    let due = c.due-due.result in
    let fed = c.streams.fed.items in
    record {
      fed = last_step due c.streams.origin c.finish.new.origin c.in-Some.stream c.pop_front.new.self.items c.finish.result
          (c.args.fed.now.items ++ fed_last due c.self.inside.origin c.from-left.result.items) fed c.push_fed.new.fed.items
          (c.streams.invariant.fed ∙ ap (λ (l : List FedStreamView). fed ++ fed_last due c.streams.origin l) c.in-Some.ensures.items)
          c.finish.ensures.fed c.finish.ensures.origin c.in_ok-push_fed.ensures;
      clock = c.finish.ensures.bound;
    }

pub returns : goal.returns
returns c =
    let due = c.due-due.result in
    let fed = c.streams.fed.items in
    let none : c.streams.left.items ≡ [] = search rules in
    last_end due c.streams.origin (c.args.fed.now.items ++ fed_last due c.self.inside.origin c.from-left.result.items) fed
    (c.streams.invariant.fed ∙ ap (λ (l : List FedStreamView). fed ++ fed_last due c.streams.origin l) none)
    ∙ ap (λ (l : List FedStreamView). c.args.fed.now.items ++ fed_last due c.self.inside.origin l) c.from-left.ensures.0
    ∙ ap (λ (d : Due). c.args.fed.now.items ++ fed_last d c.self.inside.origin c.self.inside.streams.items) c.due-due.ensures.value
    ∙ ap (λ (v : FeedView). c.args.fed.now.items ++ fed_last (due_of c.args.self) v.origin v.streams) c.self.view_is
