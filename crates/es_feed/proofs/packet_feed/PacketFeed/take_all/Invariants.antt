use Rattle.std.proofs.Common.{◌-◌, length}
use Rattle.es_feed.proofs.FedPackets.{TakenSoFar}
use Rattle.es_feed.proofs.packet_feed.PacketFeed.take_all.Given as goal

abbrev pub invariant-loop-at : goal.invariant-loop-at
invariant-loop-at l = TakenSoFar l.fn.self l.self l.bytes l.at l.fn.fed.items l.fed.items

abbrev pub decreases-loop-at : goal.decreases-loop-at
decreases-loop-at l = length l.bytes - l.at
