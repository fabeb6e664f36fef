use Rattle.mux_core.proofs.Whole.{headline_over}
use Rattle.mux_core.proofs.Accepted.{any_state}
use Rattle.mux_core.proofs.laws.headline.Goals as goal

pub returns-clause-whole : goal.returns-clause-whole
returns-clause-whole c = headline_over

pub returns-clause-any_state : goal.returns-clause-any_state
returns-clause-any_state c = any_state
