use Rattle.std.proofs.Common.{◌≡◌, ◌++◌, ◌∙◌, ℕ, List, Some, drop, sym, ap, subst}
use Rattle.packet_sync.specs.OtherPackets.{front_of}
use Rattle.packet_sync.specs.PacketBytes.{AreInner}
use Rattle.packet_sync.proofs.PacketBytes.{last_found}
use Rattle.packet_sync.proofs.packet_bytes.inner_bytes.Goals as goal

pub returns-then-not-ended-clause-packets : goal.returns-then-not-ended-clause-packets
returns-then-not-ended-clause-packets c =
    let pushed = c.in_ok-used.ensures.pushed in
    let is : c.push_inner.new.packets.items ≡ pushed.0 = pushed.1 ∙ ap (λ (r : List ℕ). r ++ pushed.0) c.new-packets.ensures.items in
    subst (λ (r : List ℕ). AreInner (Some c.args.other) c.args.bytes.now c.args.ended r c.in_ok-used.used) (sym is) pushed.2

pub returns-clause-packets : goal.returns-clause-packets
returns-clause-packets c =
    let pushed = c.in_ok-used.ensures.pushed in
    let last = c.split_at.result.1.now in
    let is : c.push_inner.new.packets.items ≡ pushed.0 = pushed.1 ∙ ap (λ (r : List ℕ). r ++ pushed.0) c.new-packets.ensures.items in
    last_found c.args.other c.args.bytes.now last pushed.0 c.push_last.new.packets.items c.args.ended c.in_ok-used.used c.if-not-ended.false
    c.split_at.ensures.back c.in_ok-used.ensures.few
    (c.in_ok-push_last.ensures ∙ ap (λ (r : List ℕ). r ++ drop (front_of c.args.other) last) is) pushed.2
