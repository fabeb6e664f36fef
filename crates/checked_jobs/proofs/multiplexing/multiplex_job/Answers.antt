use Rattle.std.proofs.Common.{Bool, ◌∙◌, ap, refl}
use Rattle.checked_jobs.specs.Multiplexing.{Muxes}
use Rattle.checked_jobs.specs.MuxJobs.{mux_fault_line, mux_fault_view, mux_job_of, mux_job_view}
use Rattle.checked_jobs.proofs.MuxOutcomes.{ended, failed, not_read}
use Rattle.devices.proofs.Performances.{reports_none, reported_only, unread}
use Rattle.checked_jobs.proofs.multiplexing.multiplex_job.Goals as goal

pub returns-in-Err-Fault : goal.returns-in-Err-Fault
returns-in-Err-Fault g c =
    let fault = mux_fault_view c.in-Err-Fault.fault in
    let r = rw c.in-Err-Fault.field-0-is at c.in-Err-Fault.ensures in
    reported_only (Muxes c.args.options) r.bytes (mux_fault_line fault) _ _ _ _ r.read
    (not_read c.args.options r.bytes fault (r.is ∙ ap (λ (b : Bool). mux_job_of b r.bytes) c.is_some.ensures))
    refl (rw c.in-Err-Fault.field-0-is at c.report_mux_fault.ensures.report) c.report_mux_fault.ensures.status

pub returns-in-Err-Stopped : goal.returns-in-Err-Stopped
returns-in-Err-Stopped g c =
    unread (Muxes c.args.options) _ _ _ _ c.in-Err-Stopped.halt (rw c.in-Err-Stopped.field-0-is at c.in-Err-Stopped.ensures) refl
    (rw c.in-Err-Stopped.field-0-is at c.report_halt.ensures.reports) c.report_halt.ensures.status

pub returns-in-Ok-write_packets : goal.returns-in-Ok-write_packets
returns-in-Ok-write_packets g c =
    let r = c.in-Ok.ensures in
    ended c.args.options r.bytes (mux_job_view c.in-Ok.job) c.in-Ok-write_packets.field-0 _ _ _ _ r.read
    (r.is ∙ ap (λ (b : Bool). mux_job_of b r.bytes) c.is_some.ensures)
    (c.in-Ok-write_packets.ensures.refused, (c.in-Ok-write_packets.ensures.written, (c.in-Ok-write_packets.ensures.kept, c.in-Ok-write_packets.ensures.fault)))
    (reports_none _ refl) refl

pub returns-in-Err : goal.returns-in-Err
returns-in-Err g c =
    let r = c.in-Ok.ensures in
    failed c.args.options r.bytes (mux_job_view c.in-Ok.job) c.in-Err.error _ _ _ _ r.read
    (r.is ∙ ap (λ (b : Bool). mux_job_of b r.bytes) c.is_some.ensures)
    (c.in-Err.ensures.refused, (c.in-Err.ensures.written, (c.in-Err.ensures.kept, c.in-Err.ensures.fault)))
    c.report_error.ensures.report c.report_error.ensures.status
