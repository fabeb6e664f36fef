use Rattle.page_curves.proofs.Values.{bound_law, value_law}
use Rattle.page_curves.proofs.laws.slots_hold_their_values.Goals as goal

pub returns-clause-within : goal.returns-clause-within
returns-clause-within c = value_law

pub returns-clause-taken_on : goal.returns-clause-taken_on
returns-clause-taken_on c = bound_law
