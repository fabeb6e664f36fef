use Rattle.std.proofs.Common.{◌≡◌, ◌++◌, [], ◌≤◌, length, take, sym, ap, ◌∙◌, List, ℕ, arith}
use Rattle.demux.specs.Stream as stream
use Rattle.demux.proofs.PushedBytes.{none_held, packet_whole}
use Rattle.demux.proofs.demultiplexer.Demux.advance.Goals as goal

pub returns-in_ok-push_packet-in-Some-clause-pushed : goal.returns-in_ok-push_packet-in-Some-clause-pushed
returns-in_ok-push_packet-in-Some-clause-pushed g c =
    let held : c.self.inside.held.items ≡ c.args.self.now.held = ap (λ (s : stream.StreamState). s.held) c.self.view_is in
    let none : c.args.self.now.held ≡ [] = sym held ∙ none_held c.self.inside.held.items c.if-not-is_empty.ensures in
    let n : length c.args.self.now.held ≡ 0 = ap length none in
    let front : c.in-Some.bytes.now ≡ take 188 c.args.piece.now = c.in-Some.ensures.cases.same in
    let bytes : c.in-Some.bytes.now ≡ c.args.self.now.held ++ take 188 c.args.piece.now =
    front ∙ ap (λ (x : List ℕ). x ++ take 188 c.args.piece.now) (sym none) in
    let enough : 188 ≤ length c.args.piece.now = c.in-Some.ensures.cases.enough in
    packet_whole c.args.self.now c.push_packet.new.self 188 c.args.piece.now c.in-Some.bytes.now (omega arith) enough (omega arith) bytes
    c.in_ok-push_packet-in-Some.ensures.ok
