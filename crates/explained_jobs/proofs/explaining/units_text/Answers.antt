use Rattle.checked_jobs.specs.MuxJobs.{mux_job_of}
use Rattle.explained_jobs.proofs.Explained.{error_said, fault_said}
use Rattle.explained_jobs.proofs.explaining.units_text.Goals as goal

pub returns-in-Err : goal.returns-in-Err
returns-in-Err c =
    fault_said c.args.switch (mux_job_of c.args.switch c.args.bytes.now) c.in_ok-job.field-0 c.in-Err.fault c.fault_text.result c.in_ok-job.ensures c.in-Err.is
    c.fault_text.ensures

pub returns-in-Ok-2 : goal.returns-in-Ok-2
returns-in-Ok-2 c =
    error_said c.args.switch (mux_job_of c.args.switch c.args.bytes.now) c.in_ok-job.field-0 c.in_ok-job-2.field-0 c.in-Ok.job c.in-Ok-2.job c.in_ok-error.error
    c.error_text.result c.in_ok-job.ensures c.in-Ok.is c.in_ok-job-2.ensures c.in-Ok-2.is c.in_ok-error.ensures c.error_text.ensures
