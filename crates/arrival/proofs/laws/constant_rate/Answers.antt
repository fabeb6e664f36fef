use Rattle.arrival.proofs.Rows.{constant_row}
use Rattle.arrival.proofs.Lines.{constant_moments, constant_scale}
use Rattle.arrival.proofs.laws.constant_rate.Goals as goal

pub returns-clause-moments : goal.returns-clause-moments
returns-clause-moments c = constant_moments

pub returns-clause-rows : goal.returns-clause-rows
returns-clause-rows c = constant_row

pub returns-clause-scale : goal.returns-clause-scale
returns-clause-scale c = constant_scale
