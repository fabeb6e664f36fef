use Rattle.std.proofs.Common.{◌++◌, true, false, ℕ, List, drop, refl, subst, sym}
use Rattle.std.proofs.lemmas.List.{drop_all}
use Rattle.es_feed.specs.Watching.{AreSlips, WatchView}
use Rattle.es_feed.proofs.WatchedStreams.{all_slips, then_over}
use Rattle.es_feed.proofs.slip_watch.SlipWatch.finish.Goals as goal

pub returns : goal.returns
returns c = λ stream gone so.
    let held = c.as_slice.result.now in
    let i = c.self.inside in
    let all = gone ++ c.args.found.now.items in
    let inside : AreSlips stream false i.held.items i.place all = subst (λ (w : WatchView). AreSlips stream false w.held w.place all) (sym c.self.view_is) so in
    let begun : AreSlips stream true held i.place all =
    subst (λ (h : List ℕ). AreSlips stream true h i.place all) (sym c.as_slice.ensures.value) (then_over stream i.held.items i.place all inside) in
    let at = c.in_ok-watch_decided.field-0 in
    all_slips stream (drop at held) c.watch_decided.new.place (gone ++ c.watch_decided.new.found.items)
    (drop_all at held (c.in_ok-watch_decided.ensures.last refl))
    (c.in_ok-watch_decided.ensures.taken stream gone begun)
