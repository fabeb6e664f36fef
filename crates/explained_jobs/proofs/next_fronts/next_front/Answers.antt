use Rattle.std.proofs.Common.{false}
use Rattle.checked_jobs.specs.JobFaults.{job_view}
use Rattle.checked_jobs.specs.Jobs.{job_of}
use Rattle.job_parts.specs.Parts.{parts_of}
use Rattle.explained_jobs.specs.JobWords.{description_part}
use Rattle.explained_jobs.proofs.NextFronts.{job_said}
use Rattle.explained_jobs.proofs.next_fronts.next_front.Goals as goal

pub returns-in-Ok : goal.returns-in-Ok
returns-in-Ok c =
    job_said c.front_after.result _ (job_of false c.args.job.now) (description_part c.args.texts.now (parts_of c.args.texts.now)) c.description_part.result.now
    (job_view c.in-Ok.old) c.first_plan.result.now c.in-Ok.ensures c.first_plan.ensures c.description_part.ensures c.front_after.ensures
