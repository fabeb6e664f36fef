use Rattle.std.proofs.Common.{◌≡◌, ◌==◌, ◌∙◌, true, length, ap}
use Rattle.stamp_repair.specs.References.{LogView}
use Rattle.stamp_repair.proofs.LoggedBytes.{packet_logged}
use Rattle.stamp_repair.proofs.references.ReferenceLog.advance.Goals as goal

pub returns-in_ok-take_packet-in-Some-clause-logged : goal.returns-in_ok-take_packet-in-Some-clause-logged
returns-in_ok-take_packet-in-Some-clause-logged c =
    let held : c.self.inside.held.items ≡ c.args.self.now.held = ap (λ (s : LogView). s.held) c.self.view_is in
    let empty : true ≡ (length c.args.self.now.held == 0) = c.if-not-is_empty.ensures ∙ ap (λ (l : _). length l == 0) held in
    packet_logged c.args.self.now c.take_packet.new.self c.args.bytes.now c.in-Some.packet.now empty c.in-Some.ensures.cases.enough c.in-Some.ensures.cases.same
    c.in_ok-take_packet-in-Some.ensures
