use Rattle.clock27.proofs.Departures.{last_packet, row}
use Rattle.clock27.proofs.laws.packet.Goals as goal

pub returns-clause-last : goal.returns-clause-last
returns-clause-last c = last_packet

pub returns-clause-row : goal.returns-clause-row
returns-clause-row c = row
