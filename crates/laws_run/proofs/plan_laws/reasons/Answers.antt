use Rattle.laws_run.proofs.ReasonNumbers.{drain_law, lead_law, leak_law, main_law, none_law, pcr_law, rate_law, table_law}
use Rattle.laws_run.proofs.plan_laws.reasons.Goals as goal

pub returns-clause-pcrs : goal.returns-clause-pcrs
returns-clause-pcrs c = pcr_law

pub returns-clause-tables : goal.returns-clause-tables
returns-clause-tables c = table_law

pub returns-clause-drains : goal.returns-clause-drains
returns-clause-drains c = drain_law

pub returns-clause-leaks : goal.returns-clause-leaks
returns-clause-leaks c = leak_law

pub returns-clause-leads : goal.returns-clause-leads
returns-clause-leads c = lead_law

pub returns-clause-mains : goal.returns-clause-mains
returns-clause-mains c = main_law

pub returns-clause-rates : goal.returns-clause-rates
returns-clause-rates c = rate_law

pub returns-clause-none : goal.returns-clause-none
returns-clause-none c = none_law
