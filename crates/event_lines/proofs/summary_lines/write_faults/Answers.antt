use Rattle.std.proofs.Common.{◌≡◌, ◌++◌, rules, string_bytes, subst}
use Rattle.std.specs.Prelude.{codes}
use Rattle.events.specs.FaultKinds.{word_of}
use Rattle.event_lines.specs.FieldViews.{FieldView}
use Rattle.event_lines.specs.ReportLines.{field_text, word_field}
use Rattle.event_lines.proofs.TextParts.{on_ok, six}
use Rattle.event_lines.proofs.summary_lines.write_faults.Goals as goal

pub returns : goal.returns
returns c =
    let f : c.word-2.result ≡ word_field (codes "kind") (word_of c.args.e.now.kind) = search rules in
    let kind : string_bytes c.write_field.new.text
    ≡ string_bytes c.write_first.new.text ++ field_text c.args.json (word_field (codes "kind") (word_of c.args.e.now.kind)) =
    subst (λ (x : FieldView). string_bytes c.write_field.new.text ≡ string_bytes c.write_first.new.text ++ field_text c.args.json x) f
    c.in_ok-write_field.ensures in
    on_ok c.write_times.result
    (λ e. six _ _ _ _ _ _ _ _ _ _ _ _ _ c.in_ok-write_first.ensures kind c.in_ok-write_source.ensures
    c.in_ok-write_count.ensures c.in_ok-write_worst.ensures e) c.write_times.ensures
