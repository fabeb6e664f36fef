use Rattle.std.proofs.Common.{◌≡◌, ◌++◌, ◌∙◌, false, ℕ, List, drop, subst, sym, ap}
use Rattle.es_feed.specs.Watching.{AreSlips, WatchView}
use Rattle.es_feed.proofs.WatchedStreams.{piece_watched}
use Rattle.es_feed.proofs.slip_watch.SlipWatch.push.Goals as goal

pub returns-clause-taken : goal.returns-clause-taken
returns-clause-taken c = λ stream gone so.
    let i = c.self.inside in
    let before = gone ++ c.args.found.now.items in
    let inside : AreSlips stream false i.held.items i.place before =
    subst (λ (w : WatchView). AreSlips stream false w.held w.place before) (sym c.self.view_is) so in
    let held = c.as_slice.result.now in
    let is : held ≡ i.held.items ++ c.args.piece.now = c.as_slice.ensures.value ∙ c.in_ok-extend_from_slice.ensures.items in
    let came = piece_watched stream c.args.piece.now held i.held.items i.place before is inside in
    let at = c.in_ok-at.at in
    let rest : c.split_at.result.1.now ≡ drop at held =
    c.split_at.ensures.back ∙ ap (λ (h : List ℕ). drop at h) (c.as_slice-2.ensures.value ∙ sym c.as_slice.ensures.value) in
    subst (λ (h : List ℕ). AreSlips (stream ++ c.args.piece.now) false h c.watch_decided.new.place (gone ++ c.watch_decided.new.found.items))
    (sym (c.in_ok-held.ensures.items ∙ rest))
    (c.in_ok-at.ensures.taken (stream ++ c.args.piece.now) gone came)
