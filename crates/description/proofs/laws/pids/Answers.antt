use Rattle.description.proofs.Pids.{pids_apart, pids_below, pid_positions}
use Rattle.description.proofs.laws.pids.Goals as goal

pub returns-clause-apart : goal.returns-clause-apart
returns-clause-apart c = pids_apart

pub returns-clause-below : goal.returns-clause-below
returns-clause-below c = pids_below

pub returns-clause-places : goal.returns-clause-places
returns-clause-places c = pid_positions
