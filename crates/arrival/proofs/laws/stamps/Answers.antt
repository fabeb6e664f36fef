use Rattle.arrival.proofs.Stamps.{jump_law, stamp_law}
use Rattle.arrival.proofs.laws.stamps.Goals as goal

pub returns-clause-ticks : goal.returns-clause-ticks
returns-clause-ticks c = stamp_law

pub returns-clause-goes : goal.returns-clause-goes
returns-clause-goes c = jump_law
