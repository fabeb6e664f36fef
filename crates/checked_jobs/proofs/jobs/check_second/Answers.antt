use Rattle.checked_jobs.specs.Jobs.{second_fault_of}
use Rattle.checked_jobs.proofs.jobs.check_second.Goals as goal

pub returns-in-Ok-clause-fault : goal.returns-in-Ok-clause-fault
unfolding second_fault_of
returns-in-Ok-clause-fault c = c.in-Ok.ensures.refusal

pub returns-clause-fault : goal.returns-clause-fault
unfolding second_fault_of
returns-clause-fault c = c.in-Err.ensures.refusal
