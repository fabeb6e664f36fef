use Rattle.tstd_rows.proofs.Levels.{entered_law, level_law, most_law}
use Rattle.tstd_rows.proofs.transport_laws.fullness.Goals as goal

pub returns-clause-appended : goal.returns-clause-appended
returns-clause-appended c = entered_law

pub returns-clause-level : goal.returns-clause-level
returns-clause-level c = level_law

pub returns-clause-most : goal.returns-clause-most
returns-clause-most c = most_law
