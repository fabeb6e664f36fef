use Rattle.std.proofs.Common.{◌≡◌, ◌∙◌, ap, refl}
use Rattle.monitor.specs.ReportLines.{report_text}
use Rattle.tsmux_cli.specs.Monitoring.{Monitors, monitored, report_status, wanted_report}
use Rattle.devices.proofs.Performances.{performed, reports_none, text_unwritten}
use Rattle.tsmux_cli.proofs.monitoring.monitor_stream.Goals as goal

pub returns-in-Ok-write_text-2 : goal.returns-in-Ok-write_text-2
unfolding monitored
returns-in-Ok-write_text-2 g c =
    let bytes = c.in-Ok.ensures.bytes in
    let text : c.deref.result.now ≡ report_text (wanted_report c.args.options bytes) = c.deref.ensures ∙ c.in-Ok-write_text.ensures
    ∙ ap report_text c.in-Ok.ensures.is in
    let written = rw text at c.in-Ok-write_text-2.ensures.0 in
    performed (Monitors c.args.options) bytes (monitored c.args.options bytes) _ _ _ _ c.in-Ok.ensures.read refl
    written c.in-Ok-write_text-2.ensures.1 (reports_none _ refl)
    (c.status_of.ensures ∙ ap report_status c.in-Ok.ensures.is)

pub returns : goal.returns
unfolding monitored
returns g c =
    let bytes = c.in-Ok.ensures.bytes in
    let text : c.deref.result.now ≡ report_text (wanted_report c.args.options bytes) = c.deref.ensures ∙ c.in-Ok-write_text.ensures
    ∙ ap report_text c.in-Ok.ensures.is in
    text_unwritten (Unit {0}) (Monitors c.args.options) bytes c.deref.result.now (monitored c.args.options bytes) _ _ _ _ c.in-Err-write_text.halt
    c.in-Ok.ensures.read refl text
    c.in-Err-write_text.ensures c.report_halt-in-Err-write_text.ensures.reports c.report_halt-in-Err-write_text.ensures.status
