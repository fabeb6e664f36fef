use Rattle.std.proofs.Common.{refl, inl}
use Rattle.devices.proofs.Performances.{unread}
use Rattle.job_run.specs.Outcomes.{LeadsWhole}
use Rattle.job_run.proofs.JobOutcomes.{outcome_written}
use Rattle.job_run.proofs.written.perform.Goals as goal

pub returns-in-Err : goal.returns-in-Err
returns-in-Err g c =
    inl (unread (LeadsWhole c.args.arguments.now) _ _ _ _ c.in-Err.halt c.in-Err.ensures refl c.report_halt.ensures.reports c.report_halt.ensures.status)

pub returns-in-Ok-stream_outcome : goal.returns-in-Ok-stream_outcome
returns-in-Ok-stream_outcome g c =
    outcome_written c.args.arguments.now c.in-Ok.stream c.in-Ok-stream_outcome.outcome _ _ _ _ c.in-Ok.ensures c.in-Ok-stream_outcome.ensures
    c.write_outcome.ensures
