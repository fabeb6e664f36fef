use Rattle.clock27.proofs.Peak.{peak_law, arrivals_climb, departures_climb}
use Rattle.clock27.proofs.laws.peak.Goals as goal

pub returns-clause-fullness : goal.returns-clause-fullness
returns-clause-fullness c = peak_law

pub returns-clause-arrivals : goal.returns-clause-arrivals
returns-clause-arrivals c = arrivals_climb

pub returns-clause-departures : goal.returns-clause-departures
returns-clause-departures c = departures_climb
