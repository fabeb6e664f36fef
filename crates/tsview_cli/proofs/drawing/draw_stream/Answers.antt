use Rattle.std.proofs.Common.{refl, string_bytes}
use Rattle.std.specs.Prelude.{if◌then◌else◌}
use Rattle.devices.specs.Outcomes.{printed}
use Rattle.devices.proofs.Performances.{reports_none, text_unwritten, text_written, unread}
use Rattle.tsview_cli.specs.Drawing.{DrawsPage}
use Rattle.tsview_cli.proofs.Drawn.{draws}
use Rattle.tsview_cli.proofs.drawing.draw_stream.Goals as goal

pub returns-in-Err : goal.returns-in-Err
returns-in-Err g c =
    unread (DrawsPage c.args.request) _ _ _ _ c.in-Err.halt c.in-Err.ensures refl c.report_halt.ensures.reports c.report_halt.ensures.status

pub returns-in-Ok-write_text : goal.returns-in-Ok-write_text
returns-in-Ok-write_text g c =
    let page = c.in-Ok.page in
    let bytes = c.in-Ok.ensures.bytes in
    text_written (DrawsPage c.args.request) bytes c.deref.result.now (printed (string_bytes page.text) (if page.good then 0 else 1)) _ _ _ _
    c.in-Ok.ensures.read (draws c.args.request bytes page c.in-Ok.ensures.written) c.deref.ensures c.in-Ok-write_text.ensures.0 c.in-Ok-write_text.ensures.1
    (reports_none _ refl) c.status_of.ensures

pub returns : goal.returns
returns g c =
    let page = c.in-Ok.page in
    let bytes = c.in-Ok.ensures.bytes in
    text_unwritten (Unit {0}) (DrawsPage c.args.request) bytes c.deref.result.now (printed (string_bytes page.text) (if page.good then 0 else 1)) _ _ _ _
    c.in-Err-write_text.halt c.in-Ok.ensures.read (draws c.args.request bytes page c.in-Ok.ensures.written) c.deref.ensures
    c.in-Err-write_text.ensures c.report_halt-in-Err-write_text.ensures.reports c.report_halt-in-Err-write_text.ensures.status
