use Rattle.std.proofs.Common.{string_bytes}
use Rattle.std.specs.Prelude.{codes}
use Rattle.page_curves.specs.PidLabels.{label_text}
use Rattle.page_curves.proofs.Texts.{two}
use Rattle.view_rows.specs.Cells as spec
use Rattle.view_rows.proofs.cells.write_carried.Goals as goal

pub returns : goal.returns
unfolding spec.carried_cell
returns c = two c.write_label.result (string_bytes c.args.text.now) (string_bytes c.push_str.new.self) (string_bytes c.write_label.new.text)
    (codes "<td class=\"word\">") (label_text c.args.labels.now c.args.pid) c.in_ok-push_str.ensures.bytes c.write_label.ensures
