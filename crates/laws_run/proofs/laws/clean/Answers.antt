use Rattle.laws_run.proofs.Driven.{driven_clean}
use Rattle.laws_run.proofs.Faultless.{clean, any_state_clean}
use Rattle.laws_run.proofs.laws.clean.Goals as goal

pub returns-clause-whole : goal.returns-clause-whole
returns-clause-whole c = clean

pub returns-clause-any_state : goal.returns-clause-any_state
returns-clause-any_state c = any_state_clean

pub returns-clause-driven : goal.returns-clause-driven
returns-clause-driven c = driven_clean
