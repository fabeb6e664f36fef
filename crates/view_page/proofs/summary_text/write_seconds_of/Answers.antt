use Rattle.std.proofs.Common.{string_bytes}
use Rattle.std.specs.Prelude.{codes}
use Rattle.event_lines.specs.ReportLines.{seconds_text}
use Rattle.page_curves.proofs.Texts.{two}
use Rattle.view_page.specs.SummaryText as spec
use Rattle.view_page.proofs.summary_text.write_seconds_of.Goals as goal

pub returns : goal.returns
unfolding spec.length_head
returns c = two c.write_seconds.result (string_bytes c.args.text.now) (string_bytes c.push_str.new.self) (string_bytes c.write_seconds.new.text)
    (codes "<p>Length: ") (seconds_text c.args.ticks) c.in_ok-push_str.ensures.bytes c.write_seconds.ensures
