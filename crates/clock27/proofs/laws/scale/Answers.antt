use Rattle.clock27.proofs.Scale.{departures-scale, arrivals-scale, fullness-scale}
use Rattle.clock27.proofs.laws.scale.Goals as goal

pub returns-clause-departures : goal.returns-clause-departures
returns-clause-departures c = departures-scale

pub returns-clause-arrivals : goal.returns-clause-arrivals
returns-clause-arrivals c = arrivals-scale

pub returns-clause-fullness : goal.returns-clause-fullness
returns-clause-fullness c = fullness-scale
