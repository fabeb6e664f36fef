use Rattle.laws_view.proofs.PacketFaults.{end_law, error_law, packet_law, sync_law}
use Rattle.laws_view.proofs.monitor_laws.packets.Goals as goal

pub returns-clause-sync : goal.returns-clause-sync
returns-clause-sync c = sync_law

pub returns-clause-packet : goal.returns-clause-packet
returns-clause-packet c = packet_law

pub returns-clause-error : goal.returns-clause-error
returns-clause-error c = error_law

pub returns-clause-end : goal.returns-clause-end
returns-clause-end c = end_law
