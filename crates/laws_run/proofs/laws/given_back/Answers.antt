use Rattle.laws_run.proofs.Driven.{driven}
use Rattle.laws_run.proofs.RunFindings.{given_back, any_state, any_streams, streams_back}
use Rattle.laws_run.proofs.laws.given_back.Goals as goal

pub returns-clause-whole : goal.returns-clause-whole
returns-clause-whole c = given_back

pub returns-clause-any_state : goal.returns-clause-any_state
returns-clause-any_state c = any_state

pub returns-clause-driven : goal.returns-clause-driven
returns-clause-driven c = driven

pub returns-clause-streams : goal.returns-clause-streams
returns-clause-streams c = streams_back

pub returns-clause-any_texts : goal.returns-clause-any_texts
returns-clause-any_texts c = any_streams
