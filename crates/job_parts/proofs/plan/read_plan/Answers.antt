use Rattle.job_parts.proofs.PlanReaders.{names_line, planned_rest}
use Rattle.job_parts.proofs.plan.read_plan.Goals as goal

pub returns-in-Ok-clause-read : goal.returns-in-Ok-clause-read
returns-in-Ok-clause-read c = planned_rest c.args.text.now c.in-Ok.plan c.in-Ok.size c.in-Ok.ensures.read

pub returns-in-Err-clause-refused : goal.returns-in-Err-clause-refused
returns-in-Err-clause-refused c = names_line c.args.text.now c.in-Err.error c.in-Err.ensures.refused
