use Rattle.std.proofs.Common.{false}
use Rattle.checked_jobs.specs.JobFaults.{job_view}
use Rattle.checked_jobs.specs.Jobs.{job_of}
use Rattle.explained_jobs.proofs.NextFronts.{front_said}
use Rattle.explained_jobs.proofs.next_fronts.front_fault.Goals as goal

pub returns-in-Ok : goal.returns-in-Ok
returns-in-Ok c =
    front_said c.args.old.now c.first_plan.result.now (job_of false c.args.front.now) (job_view c.in-Ok.job) c.line_up_fault.result c.fault_if_any.result
    c.in-Ok.ensures c.first_plan.ensures c.line_up_fault.ensures c.fault_if_any.ensures
