use Rattle.laws_run.proofs.LeftFaults.{reported, any_state_reported, job_reported}
use Rattle.laws_run.proofs.laws.monitored_whole.Goals as goal

pub returns-clause-whole : goal.returns-clause-whole
returns-clause-whole c = reported

pub returns-clause-any_state : goal.returns-clause-any_state
returns-clause-any_state c = any_state_reported

pub returns-clause-jobs : goal.returns-clause-jobs
returns-clause-jobs c = job_reported
