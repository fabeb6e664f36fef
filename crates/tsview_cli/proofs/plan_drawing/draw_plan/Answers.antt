use Rattle.std.proofs.Common.{refl, sym}
use Rattle.checked_jobs.specs.JobFaults.{fault_view}
use Rattle.devices.proofs.Performances.{unread}
use Rattle.tsview_cli.specs.PlanDrawing.{DrawsPlan}
use Rattle.tsview_cli.proofs.PlanDrawings.{fault_reported, page_unwritten}
use Rattle.tsview_cli.proofs.plan_drawing.draw_plan.Goals as goal

pub returns-in-Err : goal.returns-in-Err
returns-in-Err g c = unread DrawsPlan _ _ _ _ c.in-Err.halt c.in-Err.ensures refl c.report_halt.ensures.reports c.report_halt.ensures.status

pub returns-in-Ok-drawn : goal.returns-in-Ok-drawn
returns-in-Ok-drawn g c =
    page_unwritten c.in-Ok.bytes.items c.deref-in-Ok-drawn.result.now _ _ _ _ c.in-Err-write_text.halt c.in-Ok.ensures
    (rw (sym c.deref-in-Ok-drawn.ensures) at (rw c.deref.ensures.value at c.in-Ok-drawn.ensures)) c.in-Err-write_text.ensures
    c.report_halt-in-Err-write_text.ensures.reports c.report_halt-in-Err-write_text.ensures.status

pub returns-in-Err-Fault : goal.returns-in-Err-Fault
returns-in-Err-Fault g c =
    fault_reported c.in-Ok.bytes.items (fault_view c.in-Err-Fault.fault) _ _ _ _ c.in-Ok.ensures
    (rw c.deref.ensures.value at (rw c.in-Err-Fault.field-0-is at c.in-Err-Fault.ensures)) refl
    (rw c.deref-in-Err-Fault.ensures.value at c.report_line.ensures)
