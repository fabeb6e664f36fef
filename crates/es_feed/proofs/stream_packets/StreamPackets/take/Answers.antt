use Rattle.std.proofs.Common.{◌≡◌, ◌∙◌, ◌++◌, List, ℕ, false, true, drop, refl, sym, ap, subst}
use Rattle.packet_sync.specs.PacketBytes.{AreInner}
use Rattle.es_feed.specs.StreamPackets.{ArePackets, PacketsView, is_early, other_by}
use Rattle.es_feed.proofs.StreamPackets.{some_given}
use Rattle.es_feed.proofs.stream_packets.StreamPackets.take.Goals as goal

pub returns-clause-packets : goal.returns-clause-packets
returns-clause-packets c = λ bytes packets so.
    let s : PacketsView = record { known = c.self.inside.known; other = c.self.inside.other; held = c.self.inside.held.items } in
    let piece = c.args.piece.now in
    let joined = c.extend_from_slice.new.self.items in
    let found = c.in_ok-inner.inner.packets.items in
    let other = c.other_by-other.result in
    let used = c.in_ok-inner.inner.used in
    let new : PacketsView = record { known = true; other = other; held = c.in_ok-held.held.items } in
    let whole : joined ≡ s.held ++ piece =
    c.in_ok-extend_from_slice.ensures.items ∙ ap (λ (r : List ℕ). r ++ piece) (c.in_ok-bytes.ensures.items ∙ c.deref.ensures.value) in
    some_given bytes piece packets joined found other used s new whole
    (ap (λ (r : List ℕ). is_early s.known r) (sym c.deref-2.ensures.value) ∙ sym c.is_early.ensures.value ∙ c.if-is_early.false)
    (c.other_by-other.ensures ∙ ap (λ (r : List ℕ). other_by s.known s.other r) c.deref-3.ensures.value)
    (subst (λ (r : List ℕ). AreInner other r false found used) c.deref-4.ensures.value c.in_ok-inner.ensures.packets) refl refl
    (c.in_ok-held.ensures.items ∙ c.split_at.ensures.back ∙ ap (drop used) c.deref-5.ensures.value)
    (subst (λ (x : PacketsView). ArePackets bytes packets x) (sym c.self.view_is) so)
