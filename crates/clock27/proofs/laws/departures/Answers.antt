use Rattle.clock27.proofs.Departures.{departures-append, last_left-append, length-departures, rising, earliest}
use Rattle.clock27.proofs.laws.departures.Goals as goal

pub returns-clause-appended : goal.returns-clause-appended
returns-clause-appended c = departures-append

pub returns-clause-last : goal.returns-clause-last
returns-clause-last c = last_left-append

pub returns-clause-len : goal.returns-clause-len
returns-clause-len c = length-departures

pub returns-clause-rising : goal.returns-clause-rising
returns-clause-rising c = rising

pub returns-clause-earliest : goal.returns-clause-earliest
returns-clause-earliest c = earliest
