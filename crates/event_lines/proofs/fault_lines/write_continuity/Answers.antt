use Rattle.std.proofs.Common.{rules, ◌≡◌, ◌++◌, List, subst, string_bytes}
use Rattle.std.specs.Prelude.{OnOk, codes}
use Rattle.event_lines.specs.FieldViews.{FieldView}
use Rattle.event_lines.specs.ReportLines.{line_of, number_field}
use Rattle.event_lines.proofs.Fields.{four}
use Rattle.event_lines.proofs.fault_lines.write_continuity.Goals as goal

pub returns : goal.returns
returns c =
    let e = c.args.e.now in
    let f_pid : c.number.result ≡ number_field (codes "pid") e.pid = search rules in
    let f_packet : c.number-2.result ≡ number_field (codes "packet") e.packet = search rules in
    let f_expected : c.number-3.result ≡ number_field (codes "expected") e.expected = search rules in
    let f_found : c.number-4.result ≡ number_field (codes "found") e.found = search rules in
    subst (λ (fields : List FieldView). OnOk c.write_line.result (string_bytes c.write_line.new.text
    ≡ string_bytes c.args.text.now ++ line_of c.args.json (codes "continuity") fields))
    (four c.number.result c.number-2.result c.number-3.result c.number-4.result _ _ _ _ f_pid f_packet f_expected f_found)
    c.write_line.ensures
