use Rattle.job_parts.specs.Parts.{fault_of}
use Rattle.job_parts.proofs.plan.check_plan.Goals as goal

pub returns-in-Ok-clause-fault : goal.returns-in-Ok-clause-fault
unfolding fault_of
returns-in-Ok-clause-fault c = c.in-Ok.ensures.refusal

pub returns-clause-fault : goal.returns-clause-fault
unfolding fault_of
returns-clause-fault c = c.in-Err.ensures.refusal
