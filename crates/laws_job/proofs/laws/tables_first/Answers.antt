use Rattle.laws_job.proofs.JobTables.{first_units}
use Rattle.laws_job.proofs.TablesBefore.{tables_before}
use Rattle.laws_job.proofs.laws.tables_first.Goals as goal

pub returns-clause-units : goal.returns-clause-units
returns-clause-units c = first_units (tables_before c.accepted_plan.ensures c.tables_first.ensures)

pub returns-clause-tables : goal.returns-clause-tables
returns-clause-tables c = tables_before c.accepted_plan.ensures c.tables_first.ensures
