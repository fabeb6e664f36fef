use Rattle.std.proofs.Common.{◌≤◌, ◌+◌, ◌∙◌, ℕ, ap, arith, length, length-drop, length-take-le}
use Rattle.es_feed.proofs.FedPackets.{none_taken, one_more}
use Rattle.es_feed.proofs.packet_feed.PacketFeed.take_all.Goals as goal

pub loop-at-init : goal.loop-at-init
loop-at-init c = none_taken c.args.self.now c.args.bytes.now c.args.fed.now.items

pub loop-at-preserved : goal.loop-at-preserved
loop-at-preserved c =
    let bytes = c.args.bytes.now in
    let at = c.loop-at.at in
    let rest = c.split_at.result.1.now in
    let enough : 188 ≤ length rest = c.in-Some.ensures.cases.enough in
    let front = c.in-Some.ensures.cases.same in
    let long : at + 188 ≤ length bytes = omega (arith, enough, ap (length {A = ℕ}) c.split_at.ensures.back, length-drop at bytes, c.loop-at.invariant.within) in
    one_more c.args.self.now c.loop-at.self c.take_next.new.self bytes rest c.in-Some.packet.now at c.args.fed.now.items c.loop-at.fed.items
    c.take_next.new.fed.items c.loop-at.invariant c.split_at.ensures.back long front (ap (length {A = ℕ}) front ∙ length-take-le 188 rest enough)
    c.in_ok-take_next.ensures.demux c.in_ok-take_next.ensures.feed c.in_ok-take_next.ensures.fed
