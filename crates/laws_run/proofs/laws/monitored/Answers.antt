use Rattle.laws_run.proofs.Soundness.{sound, any_state_sound}
use Rattle.laws_run.proofs.MonitoredJobs.{job_sound}
use Rattle.laws_run.proofs.laws.monitored.Goals as goal

pub returns-clause-whole : goal.returns-clause-whole
returns-clause-whole c = sound

pub returns-clause-any_state : goal.returns-clause-any_state
returns-clause-any_state c = any_state_sound

pub returns-clause-jobs : goal.returns-clause-jobs
returns-clause-jobs c = job_sound
