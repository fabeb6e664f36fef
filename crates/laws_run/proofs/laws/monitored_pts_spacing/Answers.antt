use Rattle.laws_run.proofs.NoFaults.{steady, any_state_steady, job_steady}
use Rattle.laws_run.proofs.laws.monitored_pts_spacing.Goals as goal

pub returns-clause-whole : goal.returns-clause-whole
returns-clause-whole c = steady

pub returns-clause-any_state : goal.returns-clause-any_state
returns-clause-any_state c = any_state_steady

pub returns-clause-jobs : goal.returns-clause-jobs
returns-clause-jobs c = job_steady
