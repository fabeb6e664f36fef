use Rattle.std.proofs.Common.{refl}
use Rattle.checked_jobs.specs.Multiplexing.{Muxes}
use Rattle.checked_jobs.specs.MuxJobs.{mux_fault_line, mux_fault_view, mux_job_view}
use Rattle.checked_jobs.proofs.MuxOutcomes.{failed, not_read}
use Rattle.devices.proofs.Performances.{no_room, reported_only, unread}
use Rattle.tsremux_cli.specs.Muxing.{plain}
use Rattle.tsremux_cli.proofs.muxing.mux_job.Goals as goal

pub returns-in-Err-Fault : goal.returns-in-Err-Fault
returns-in-Err-Fault g c =
    let fault = mux_fault_view c.in-Err-Fault.fault in
    let r = rw c.in-Err-Fault.field-0-is at c.in-Err-Fault.ensures in
    reported_only (Muxes plain) r.bytes (mux_fault_line fault) _ _ _ _ r.read (not_read plain r.bytes fault r.is)
    refl (rw c.in-Err-Fault.field-0-is at c.report_mux_fault.ensures.report) c.report_mux_fault.ensures.status

pub returns-in-Err-Stopped : goal.returns-in-Err-Stopped
returns-in-Err-Stopped g c =
    unread (Muxes plain) _ _ _ _ c.in-Err-Stopped.halt (rw c.in-Err-Stopped.field-0-is at c.in-Err-Stopped.ensures) refl
    (rw c.in-Err-Stopped.field-0-is at c.report_halt.ensures.reports) c.report_halt.ensures.status

pub returns-in_default : goal.returns-in_default
returns-in_default g c =
    let r = c.in-Ok.ensures in
    no_room (Muxes plain) r.bytes _ _ _ _ r.read refl c.report_halt-in_default.ensures.reports c.report_halt-in_default.ensures.status

pub returns-in-Ok-write_packets : goal.returns-in-Ok-write_packets
returns-in-Ok-write_packets g c =
    let r = c.in-Ok.ensures in
    record {
      bytes = r.bytes;
      read = r.read;
      view = mux_job_view c.in-Ok.job;
      view_is = r.is;
      figures_are = c.in-Ok-figures_of.ensures;
      written = c.in-Ok-write_packets.ensures.written;
      clean = c.in-Ok-write_packets.ensures.fault;
      kept = c.in-Ok-write_packets.ensures.kept;
      silent = refl;
    }

pub returns-in-Err : goal.returns-in-Err
returns-in-Err g c =
    let r = c.in-Ok.ensures in
    failed plain r.bytes (mux_job_view c.in-Ok.job) c.in-Err.error _ _ _ _ r.read r.is
    (c.in-Err.ensures.refused, (c.in-Err.ensures.written, (c.in-Err.ensures.kept, c.in-Err.ensures.fault)))
    c.report_error.ensures.report c.report_error.ensures.status
