use Rattle.laws_run.proofs.JobLemmas.{job_given_back, job_clean}
use Rattle.laws_run.proofs.laws.jobs.Goals as goal

pub returns-clause-given_back : goal.returns-clause-given_back
returns-clause-given_back c = job_given_back

pub returns-clause-clean : goal.returns-clause-clean
returns-clause-clean c = job_clean
