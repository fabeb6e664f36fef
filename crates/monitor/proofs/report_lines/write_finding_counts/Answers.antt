use Rattle.std.proofs.Common.{ℕ, List, ◌++◌, ap, ◌∙◌, append_assoc, string_bytes}
use Rattle.std.specs.Prelude.{codes}
use Rattle.monitor.specs.ReportLines.{number_text}
use Rattle.monitor.proofs.report_lines.write_finding_counts.Goals as goal

pub returns : goal.returns
returns g c =
    let scrambled = number_text (codes " scrambled ") c.args.counts.now.scrambled in
    c.in_ok-write_number-2.ensures
    ∙ ap (λ (xs : List ℕ). xs ++ scrambled) c.in_ok-write_number.ensures
    ∙ append_assoc (string_bytes c.args.text.now) (number_text (codes " duplicates ") c.args.counts.now.duplicates) scrambled
