use Rattle.clock27.proofs.Tandem.{tandem_law, second_law}
use Rattle.clock27.proofs.laws.tandem.Goals as goal

pub returns-clause-departures : goal.returns-clause-departures
returns-clause-departures c = tandem_law

pub returns-clause-fullness : goal.returns-clause-fullness
returns-clause-fullness c = second_law
