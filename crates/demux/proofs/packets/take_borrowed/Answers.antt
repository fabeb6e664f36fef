use Rattle.std.proofs.Common.{◌≡◌, ◌++◌, Bool, List, map, Ok, Result, ap, sym, ◌∙◌, rules}
use Rattle.ts_packet.specs.declared.packet.PacketError.{PacketError}
use Rattle.ts_packet.specs.Reading.{packet_at}
use Rattle.ts_packet.specs.Views.{PacketView, packet_view}
use Rattle.pid_findings.specs.Shown.{is_span}
use Rattle.demux.specs.Stream.{within_by}
use Rattle.pid_findings.proofs.FoundViews.{all_borrowed}
use Rattle.demux.proofs.packets.take_borrowed.Goals as goal

pub returns-in_ok-take_read-in-Ok-clause-spans : goal.returns-in_ok-take_read-in-Ok-clause-spans
returns-in_ok-take_read-in-Ok-clause-spans g c =
    let read : packet_at c.args.bytes.now ≡ Ok (packet_view c.in-Ok.packet) = search rules in
    let within : List Bool = within_by c.args.index c.args.bytes.now c.args.states.now (Ok (packet_view c.in-Ok.packet)) in
    c.in_ok-take_read-in-Ok.ensures.spans
    ∙ ap (λ (more : List Bool). map is_span c.args.found.now.items ++ more)
    (all_borrowed within ∙ ap (λ (r : Result PacketView PacketError). within_by c.args.index c.args.bytes.now c.args.states.now r) (sym read))
