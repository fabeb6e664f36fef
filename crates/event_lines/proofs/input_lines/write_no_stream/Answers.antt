use Rattle.std.proofs.Common.{rules, ◌≡◌, ◌++◌, List, subst, string_bytes}
use Rattle.std.specs.Prelude.{OnOk, codes}
use Rattle.event_lines.specs.FieldViews.{FieldView}
use Rattle.packet_sync.specs.FileForms.{line_word}
use Rattle.event_lines.specs.ReportLines.{line_of, word_field}
use Rattle.event_lines.proofs.Fields.{one}
use Rattle.event_lines.proofs.input_lines.write_no_stream.Goals as goal

pub returns : goal.returns
returns c =
    let f_form : c.word.result ≡ word_field (codes "form") (line_word c.args.form) = search rules in
    subst (λ (fields : List FieldView). OnOk c.write_line.result (string_bytes c.write_line.new.text
    ≡ string_bytes c.args.text.now ++ line_of c.args.json (codes "no_stream") fields))
    (one c.word.result _ f_form)
    c.write_line.ensures
