use Rattle.arrival.proofs.HeldBytes.{held_law, state_law}
use Rattle.arrival.proofs.laws.held.Goals as goal

pub returns-clause-line : goal.returns-clause-line
returns-clause-line c = held_law

pub returns-clause-state : goal.returns-clause-state
returns-clause-state c = state_law
