use Rattle.es_feed.proofs.StreamPackets.{plain_packets}
use Rattle.es_feed.proofs.stream_packets.packets_of.Goals as goal

pub returns-in_ok-from_slice-in-None-clause-packets : goal.returns-in_ok-from_slice-in-None-clause-packets
returns-in_ok-from_slice-in-None-clause-packets c =
    plain_packets c.args.bytes.now c.in_ok-from_slice-in-None.field-0.items c.args.other c.args.ended c.in-None.is c.in_ok-from_slice-in-None.ensures.items
