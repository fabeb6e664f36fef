use Rattle.std.proofs.Common.{rules, ◌≡◌, ◌==◌, false}
use Rattle.ts_packet.specs.Views.{packet_view}
use Rattle.demux.proofs.ReadPackets.{read_says, read_spans}
use Rattle.demux.proofs.packets.take_read.Goals as goal

pub returns-clause-found : goal.returns-clause-found
returns-clause-found g c =
    let sound : c.args.packet.now.header.transport_error_indicator ≡ false = search rules in
    let some : (c.args.packet.now.header.pid == 8191) ≡ false = search rules in
    read_says c.args.index c.args.bytes.now c.args.states.now (packet_view c.args.packet.now) c.args.borrowed c.args.found.now.items c.step.new.found.items
    sound some c.in_ok-step.ensures.found

pub returns-clause-spans : goal.returns-clause-spans
returns-clause-spans g c =
    let sound : c.args.packet.now.header.transport_error_indicator ≡ false = search rules in
    let some : (c.args.packet.now.header.pid == 8191) ≡ false = search rules in
    read_spans c.args.index c.args.bytes.now c.args.states.now (packet_view c.args.packet.now) c.args.borrowed c.args.found.now.items c.step.new.found.items
    sound some c.in_ok-step.ensures.found
