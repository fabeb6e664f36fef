use Rattle.laws_run.proofs.InTime.{in_time, any_state_in_time}
use Rattle.laws_run.proofs.MonitoredJobs.{job_in_time}
use Rattle.laws_run.proofs.laws.monitored_times.Goals as goal

pub returns-clause-whole : goal.returns-clause-whole
returns-clause-whole c = in_time

pub returns-clause-any_state : goal.returns-clause-any_state
returns-clause-any_state c = any_state_in_time

pub returns-clause-jobs : goal.returns-clause-jobs
returns-clause-jobs c = job_in_time
