use Rattle.std.proofs.Common.{◌≡◌, ◌++◌, ◌∙◌, false, List, ℕ, subst, sym, ap}
use Rattle.std.proofs.lemmas.List.{append-nil}
use Rattle.packet_sync.specs.declared.slip.Slip.{Slip}
use Rattle.fed_streams.specs.Feeding.{Fed}
use Rattle.es_feed.specs.StreamFeeding.{IsFedBy}
use Rattle.es_feed.specs.Watching.{AreRounds, AreSlips, IsWatchedBy, WatchedView, slips_fed}
use Rattle.es_feed.proofs.WatchedStreams.{round_more}
use Rattle.es_feed.proofs.watched_feed.WatchedFeed.push.Goals as goal

pub returns-clause-taken : goal.returns-clause-taken
returns-clause-taken c = λ first stream before so.
    let i = c.self.inside in
    let inside : IsWatchedBy first stream false (record { packets = i.packets; stream = i.stream; watch = i.watch }) before =
    subst (λ (w : WatchedView). IsWatchedBy first stream false w before) (sym c.self.view_is) so in
    let next = c.in_ok-packets.packets.items in
    let none : inside.fed ++ c.args.fed.now.items ≡ inside.fed = ap (λ (xs : List Fed). inside.fed ++ xs) c.requires ∙ append-nil inside.fed in
    let empty : inside.found ++ c.new-found.result.items ≡ inside.found = ap (λ (xs : List Slip). inside.found ++ xs) c.new-found.ensures.items
    ∙ append-nil inside.found in
    let fed = c.in_ok-push.ensures.taken first inside.gone inside.fed
    (subst (λ (xs : List Fed). IsFedBy first inside.gone false i.stream xs) (sym none) inside.by) in
    let found = c.in_ok-push-2.ensures.taken inside.gone inside.found
    (subst (λ (xs : List Slip). AreSlips inside.gone false i.watch.held i.watch.place xs) (sym empty) inside.slips_are) in
    record {
      gone = inside.gone ++ next;
      packets_are = c.in_ok-packets.ensures.packets stream inside.gone inside.packets_are;
      fed = inside.fed ++ c.push.new.fed.items;
      found = inside.found ++ c.push-2.new.found.items;
      rounds = subst (λ (xs : List Fed). AreRounds (inside.fed ++ c.push.new.fed.items) (inside.found ++ c.push-2.new.found.items) (before ++ xs))
          (sym (c.in_ok-push_slips.ensures ∙ ap (λ (xs : List Slip). c.push.new.fed.items ++ slips_fed xs) c.deref-3.ensures.value))
          (round_more inside.fed c.push.new.fed.items inside.found c.push-2.new.found.items before inside.rounds);
      by = subst (λ (r : List ℕ). IsFedBy first (inside.gone ++ r) false c.push.new.self (inside.fed ++ c.push.new.fed.items)) c.deref.ensures.value fed;
      slips_are = subst (λ (r : List ℕ). AreSlips (inside.gone ++ r) false c.push-2.new.self.held c.push-2.new.self.place
          (inside.found ++ c.push-2.new.found.items)) c.deref-2.ensures.value found;
    }
