use Rattle.std.proofs.Common.{◌≡◌, ◌<◌, ◌++◌, ◌∙◌, ℕ, true, List, drop, length, length-drop, refl, sym, ap, arith, subst}
use Rattle.es_feed.specs.StreamFeeding.{IsFedBy}
use Rattle.es_feed.proofs.FedStreams.{ready, ended_fed}
use Rattle.es_feed.proofs.stream_feed.StreamFeed.finish.Goals as goal

pub returns : goal.returns
returns c = λ first stream gone so.
    let held = c.as_slice.result.now in
    let at = c.in_ok-at.at in
    let packets = c.take_decided.new.packets in
    let rest = c.split_at.result.1.now in
    let begun = ready first stream c.args.self c.self.inside.held.items held c.self.inside.packets (gone ++ c.args.fed.now.items) c.self.view_is
    c.as_slice.ensures.value so in
    let left : rest ≡ drop at held = c.split_at.ensures.back ∙ ap (λ (r : List ℕ). drop at r) (c.as_slice-2.ensures.value ∙ sym c.as_slice.ensures.value) in
    let few : length rest < 188 = omega (arith, c.in_ok-at.ensures.last refl, ap (length {A = ℕ}) left, length-drop at held) in
    ended_fed first stream rest packets gone c.take_decided.new.fed.items c.finish.new.fed.items few c.in_ok-finish.ensures
    (subst (λ (r : List ℕ). IsFedBy first stream true (record { held = r; packets = packets }) (gone ++ c.take_decided.new.fed.items)) (sym left)
    (c.in_ok-at.ensures.taken first stream gone begun))
