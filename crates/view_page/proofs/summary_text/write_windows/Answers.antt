use Rattle.std.proofs.Common.{string_bytes}
use Rattle.std.specs.Prelude.{codes}
use Rattle.page_curves.specs.Numbers.{grouped}
use Rattle.page_curves.proofs.Texts.{two}
use Rattle.view_page.specs.SummaryText as spec
use Rattle.view_page.proofs.summary_text.write_windows.Goals as goal

pub returns : goal.returns
unfolding spec.window_count
returns c = two c.write_grouped.result (string_bytes c.args.text.now) (string_bytes c.push_str.new.self) (string_bytes c.write_grouped.new.text)
    (codes "<p>Windows: ") (grouped c.args.windows) c.in_ok-push_str.ensures.bytes c.write_grouped.ensures
