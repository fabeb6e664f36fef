use Rattle.unit_timing.proofs.OneMoreUnit.{spaced_more_law, sized_more_law, group_more_law}
use Rattle.unit_timing.proofs.Levels.{allowance_more_law}
use Rattle.unit_timing.proofs.units.one_more.Goals as goal

pub returns-clause-spaced : goal.returns-clause-spaced
returns-clause-spaced c = spaced_more_law

pub returns-clause-sized : goal.returns-clause-sized
returns-clause-sized c = sized_more_law

pub returns-clause-grouped : goal.returns-clause-grouped
returns-clause-grouped c = group_more_law

pub returns-clause-allowed : goal.returns-clause-allowed
returns-clause-allowed c = allowance_more_law
