use Rattle.monitor.proofs.StreamReport.{packet_by_packet}
use Rattle.monitor.proofs.laws.packet_by_packet.Goals as goal

pub returns : goal.returns
returns c = packet_by_packet
