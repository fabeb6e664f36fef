use Rattle.checked_jobs.specs.MuxJobs.{mux_job_view}
use Rattle.checked_jobs.proofs.MuxOutcomes.{is_kept}
use Rattle.checked_jobs.proofs.multiplexing.write_packets.Goals as goal

pub returns-in-One-clause-kept : goal.returns-in-One-clause-kept
returns-in-One-clause-kept g c =
    is_kept c.args.options (mux_job_view c.args.job) c.multiplex_as.result
    (rw (← c.slots_of-slots.ensures, c.in-One.is) c.multiplex_as.ensures.headline)
    (rw (← c.slots_of-slots.ensures, c.in-One.is) c.multiplex_as.ensures.measured)

pub returns-in-Two-clause-kept : goal.returns-in-Two-clause-kept
returns-in-Two-clause-kept g c =
    is_kept c.args.options (mux_job_view c.args.job) c.multiplex_switch_as.result
    (rw (← c.slots_of-slots.ensures, ← c.unwrap_or-periods.ensures, c.in-Two.is) c.multiplex_switch_as.ensures.headline)
    (rw (← c.slots_of-slots.ensures, ← c.unwrap_or-periods.ensures, c.in-Two.is) c.multiplex_switch_as.ensures.measured)
