use Rattle.std.proofs.Common.{rules, ◌≡◌, ◌++◌, List, subst, string_bytes}
use Rattle.std.specs.Prelude.{OnOk, codes}
use Rattle.event_lines.specs.FieldViews.{FieldView}
use Rattle.event_lines.specs.ReportLines.{line_of, number_field}
use Rattle.event_lines.proofs.Fields.{one}
use Rattle.event_lines.proofs.input_lines.write_packet_size.Goals as goal

pub returns : goal.returns
returns c =
    let f_bytes : c.number.result ≡ number_field (codes "bytes") c.args.size = search rules in
    subst (λ (fields : List FieldView). OnOk c.write_line.result (string_bytes c.write_line.new.text
    ≡ string_bytes c.args.text.now ++ line_of c.args.json (codes "packet_size") fields))
    (one c.number.result _ f_bytes)
    c.write_line.ensures
