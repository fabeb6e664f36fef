use Rattle.std.proofs.Common.{◌∙◌, ◌*◌, ap, refl, add-one}
use Rattle.packet_sync.specs.FieldsLeftOut.{packet_at, with_packet, with_packets}
use Rattle.packet_sync.proofs.left_out.note_packets.Goals as goal

pub loop-k-init : goal.loop-k-init
unfolding with_packets
loop-k-init g c = refl

pub loop-k-preserved : goal.loop-k-preserved
unfolding with_packets
loop-k-preserved g c =
    rw (add-one c.loop-k.k) (c.in_ok-note_packet.ensures ∙ ap (with_packet (packet_at c.args.bytes.now (188 * c.loop-k.k))) c.loop-k.invariant)
