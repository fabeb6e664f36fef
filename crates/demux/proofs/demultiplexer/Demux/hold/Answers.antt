use Rattle.std.proofs.Common.{◌≡◌, ◌++◌, ◌-◌, length, take, ap, ap₂, ◌∙◌, List, ℕ, arith}
use Rattle.demux.specs.Stream as stream
use Rattle.demux.proofs.PushedBytes.{held_more, packet_whole}
use Rattle.demux.proofs.demultiplexer.Demux.hold.Goals as goal

pub returns-then-piece-missing-clause-pushed : goal.returns-then-piece-missing-clause-pushed
returns-then-piece-missing-clause-pushed g c =
    let held : c.self.inside.held.items ≡ c.args.self.now.held = ap (λ (s : stream.StreamState). s.held) c.self.view_is in
    let n : length c.self.inside.held.items ≡ length c.args.self.now.held = ap length held in
    held_more c.args.self.now _ c.args.piece.now (omega arith)
    (ap₂ (λ (s : stream.StreamState) (x : List ℕ). record s { held = x }) c.self.view_is
    (c.in-Ok.ensures.ok ∙ ap (λ (x : List ℕ). x ++ c.args.piece.now) held))

pub returns-clause-pushed : goal.returns-clause-pushed
returns-clause-pushed g c =
    let held : c.self.inside.held.items ≡ c.args.self.now.held = ap (λ (s : stream.StreamState). s.held) c.self.view_is in
    let n : length c.self.inside.held.items ≡ length c.args.self.now.held = ap length held in
    let bytes : c.join-bytes.result ≡ c.args.self.now.held ++ take (188 - c.len-missing.result) c.args.piece.now =
    c.join-bytes.ensures ∙ ap₂ (λ (x y : List ℕ). x ++ y) (c.deref.ensures.0 ∙ held) c.split_at.ensures.front in
    packet_whole c.args.self.now c.push_packet.new.self (188 - c.len-missing.result) c.args.piece.now c.join-bytes.result (omega arith) (omega arith)
    (omega arith) bytes c.in_ok-push_packet.ensures.ok
