use Rattle.std.proofs.Common.{◌≡◌, ℕ, ap, refl}
use Rattle.std.specs.Prelude.{option_map}
use Rattle.tsmux_cli.specs.Checking.{Checks, checked, verdict_of}
use Rattle.checked_jobs.specs.JobFaults.{fault_view}
use Rattle.devices.proofs.Performances.{text_unwritten, performed, unread}
use Rattle.tsmux_cli.proofs.checking.check_job.Goals as goal

pub returns-in-Err : goal.returns-in-Err
returns-in-Err g c = unread (Checks c.args.switch) _ _ _ _ c.in-Err.halt c.in-Err.ensures refl c.report_halt.ensures.reports c.report_halt.ensures.status

pub returns-in-Ok-write_verdict : goal.returns-in-Ok-write_verdict
unfolding checked
returns-in-Ok-write_verdict g c =
    let bytes = c.in-Ok.ensures.bytes in
    let is : verdict_of (option_map fault_view c.in-Ok.fault) ≡ checked c.args.switch bytes = ap verdict_of c.in-Ok.ensures.is in
    performed (Checks c.args.switch) bytes (verdict_of (option_map fault_view c.in-Ok.fault)) _ _ _ _ c.in-Ok.ensures.read is
    c.in-Ok-write_verdict.ensures.output.0 c.in-Ok-write_verdict.ensures.output.1 c.report_other.ensures c.in-Ok-write_verdict.ensures.status

pub returns-in-Err-write_verdict : goal.returns-in-Err-write_verdict
unfolding checked
returns-in-Err-write_verdict g c =
    let bytes = c.in-Ok.ensures.bytes in
    let is : verdict_of (option_map fault_view c.in-Ok.fault) ≡ checked c.args.switch bytes = ap verdict_of c.in-Ok.ensures.is in
    text_unwritten ℕ (Checks c.args.switch) bytes _ (verdict_of (option_map fault_view c.in-Ok.fault)) _ _ _ _ c.in-Err-write_verdict.halt c.in-Ok.ensures.read
    is refl
    c.in-Err-write_verdict.ensures.output c.report_halt-in-Err-write_verdict.ensures.reports c.report_halt-in-Err-write_verdict.ensures.status
