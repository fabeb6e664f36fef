use Rattle.laws_view.proofs.ViewedCounters.{job_counters_law, run_counters_law, viewed_counters_law}
use Rattle.laws_view.proofs.laws.viewed_counters.Goals as goal

pub returns-clause-viewed : goal.returns-clause-viewed
returns-clause-viewed c = viewed_counters_law

pub returns-clause-run : goal.returns-clause-run
returns-clause-run c = run_counters_law

pub returns-clause-jobs : goal.returns-clause-jobs
returns-clause-jobs c = job_counters_law
