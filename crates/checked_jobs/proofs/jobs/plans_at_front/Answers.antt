use Rattle.std.proofs.Common.{refl}
use Rattle.checked_jobs.proofs.LongerJobs.{job_at_front, rest_within}
use Rattle.checked_jobs.proofs.jobs.plans_at_front.Goals as goal

pub overflow_sub-result : goal.overflow_sub-result
overflow_sub-result c = rest_within c.args.switch c.args.bytes.now c.in-Ok.field-0.rest.now c.in-Ok.field-0.plans c.in-Ok.ensures

pub returns-in-Ok : goal.returns-in-Ok
returns-in-Ok c = job_at_front c.args.switch c.args.bytes.now c.in-Ok.field-0.rest.now c.in-Ok.field-0.plans _ refl c.in-Ok.ensures
