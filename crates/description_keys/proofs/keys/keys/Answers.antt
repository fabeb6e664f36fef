use Rattle.std.proofs.Common.{refl}
use Rattle.description_keys.specs.KeyRows.{keys}
use Rattle.description_keys.specs.Refusals.{rules}
use Rattle.description_keys.proofs.keys.keys.Goals as goal

pub returns-clause-rows : goal.returns-clause-rows
unfolding keys
returns-clause-rows c = refl

pub returns-clause-rules : goal.returns-clause-rules
unfolding rules
returns-clause-rules c = refl
