use Rattle.checked_jobs.proofs.MuxJobs.{record_unread, units_read}
use Rattle.checked_jobs.proofs.mux_jobs.with_units.Goals as goal

pub returns-in-Ok : goal.returns-in-Ok
returns-in-Ok c after t = units_read c.args.plans after c.in-Ok.units.items (c.in-Ok.ensures after t)

pub returns-in-Err : goal.returns-in-Err
returns-in-Err c after t =
    record_unread c.args.plans after c.in-Err.field-0.index c.in-Err.field-0.fault (c.in-Err.ensures after t)
