use Rattle.std.proofs.Common.{◌∙◌, List, ℕ, true, length, refl, sym, ap, subst}
use Rattle.packet_sync.specs.PacketBytes.{AreInner}
use Rattle.es_feed.specs.StreamPackets.{ArePackets, PacketsView, other_by}
use Rattle.es_feed.proofs.StreamPackets.{all_given}
use Rattle.es_feed.proofs.stream_packets.StreamPackets.finish.Goals as goal

pub returns : goal.returns
returns c = λ bytes packets so.
    let s : PacketsView = record { known = c.self.inside.known; other = c.self.inside.other; held = c.self.inside.held.items } in
    let found = c.in_ok-inner.inner.packets.items in
    let other = c.other_by-other.result in
    let used = c.in_ok-inner.inner.used in
    all_given bytes packets found other used s
    (c.other_by-other.ensures ∙ ap (λ (r : List ℕ). other_by s.known s.other r) c.deref.ensures.value)
    (subst (λ (r : List ℕ). AreInner other r true found used) c.deref-2.ensures.value c.in_ok-inner.ensures.packets)
    (c.in_ok-inner.ensures.last refl ∙ ap (length {A = ℕ}) c.deref-2.ensures.value)
    (subst (λ (x : PacketsView). ArePackets bytes packets x) (sym c.self.view_is) so)
