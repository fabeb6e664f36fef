use Rattle.std.proofs.Common.{◌≡◌, ◌++◌, ◌∙◌, false, List, ℕ, subst, sym, ap}
use Rattle.std.proofs.lemmas.List.{append-nil}
use Rattle.packet_sync.specs.PacketBytes.{packets_in}
use Rattle.packet_sync.specs.Slips.{slips}
use Rattle.packet_sync.specs.declared.slip.Slip.{Slip}
use Rattle.fed_streams.specs.Feeding.{Fed}
use Rattle.es_feed.specs.StreamFeeding.{IsFedBy, fed_of}
use Rattle.es_feed.specs.Watching.{AreRounds, AreSlips, IsWatchedBy, WatchedView, slips_fed}
use Rattle.es_feed.proofs.WatchedStreams.{round_more}
use Rattle.es_feed.proofs.watched_feed.WatchedFeed.finish.Goals as goal

pub returns : goal.returns
returns c = λ first stream before so.
    let i = c.self.inside in
    let inside : IsWatchedBy first stream false (record { packets = i.packets; stream = i.stream; watch = i.watch }) before =
    subst (λ (w : WatchedView). IsWatchedBy first stream false w before) (sym c.self.view_is) so in
    let whole : inside.gone ++ c.in_ok-packets.packets.items ≡ packets_in stream = c.in_ok-packets.ensures stream inside.gone inside.packets_are in
    let none : inside.fed ++ c.args.fed.now.items ≡ inside.fed = ap (λ (xs : List Fed). inside.fed ++ xs) c.requires ∙ append-nil inside.fed in
    let empty : inside.found ++ c.new-found.result.items ≡ inside.found = ap (λ (xs : List Slip). inside.found ++ xs) c.new-found.ensures.items
    ∙ append-nil inside.found in
    let last : IsFedBy first (packets_in stream) false c.push.new.self (inside.fed ++ c.push.new.fed.items) =
    subst (λ (r : List ℕ). IsFedBy first r false c.push.new.self (inside.fed ++ c.push.new.fed.items))
    (ap (λ (r : List ℕ). inside.gone ++ r) c.deref.ensures.value ∙ whole)
    (c.in_ok-push.ensures.taken first inside.gone inside.fed
    (subst (λ (xs : List Fed). IsFedBy first inside.gone false i.stream xs) (sym none) inside.by)) in
    let lost : AreSlips (packets_in stream) false c.push-2.new.self.held c.push-2.new.self.place (inside.found ++ c.push-2.new.found.items) =
    subst (λ (r : List ℕ). AreSlips r false c.push-2.new.self.held c.push-2.new.self.place (inside.found ++ c.push-2.new.found.items))
    (ap (λ (r : List ℕ). inside.gone ++ r) c.deref-2.ensures.value ∙ whole)
    (c.in_ok-push-2.ensures.taken inside.gone inside.found
    (subst (λ (xs : List Slip). AreSlips inside.gone false i.watch.held i.watch.place xs) (sym empty) inside.slips_are)) in
    let fed : inside.fed ++ c.finish-2.new.fed.items ≡ fed_of first (packets_in stream) = c.in_ok-finish.ensures first (packets_in stream) inside.fed last in
    let found : inside.found ++ c.finish-3.new.found.items ≡ slips (packets_in stream) = c.in_ok-finish-2.ensures (packets_in stream) inside.found lost in
    record {
      rounds = subst (λ (xs : List Fed). AreRounds (fed_of first (packets_in stream)) (slips (packets_in stream)) (before ++ xs))
          (sym (c.in_ok-push_slips.ensures ∙ ap (λ (xs : List Slip). c.finish-2.new.fed.items ++ slips_fed xs) c.deref-3.ensures.value))
          (subst (λ (xs : List Fed). AreRounds xs (slips (packets_in stream)) (before ++ (c.finish-2.new.fed.items ++ slips_fed c.finish-3.new.found.items))) fed
          (subst (λ (xs : List Slip). AreRounds (inside.fed ++ c.finish-2.new.fed.items) xs
          (before ++ (c.finish-2.new.fed.items ++ slips_fed c.finish-3.new.found.items))) found
          (round_more inside.fed c.finish-2.new.fed.items inside.found c.finish-3.new.found.items before inside.rounds)));
    }
