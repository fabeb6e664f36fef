use Rattle.laws_view.proofs.SharedRules.{error_law, packet_law, sync_law}
use Rattle.laws_view.proofs.monitor_laws.refusals.Goals as goal

pub returns-clause-sync : goal.returns-clause-sync
returns-clause-sync c = sync_law

pub returns-clause-packet : goal.returns-clause-packet
returns-clause-packet c = packet_law

pub returns-clause-error : goal.returns-clause-error
returns-clause-error c = error_law
