use Rattle.packet_times.proofs.ClockDrifts.{own_law, total_law}
use Rattle.packet_times.proofs.laws.drift_by_references.Goals as goal

pub returns-clause-own : goal.returns-clause-own
returns-clause-own c = own_law

pub returns-clause-total : goal.returns-clause-total
returns-clause-total c = total_law
