use Rattle.std.proofs.Common.{rules, ◌≡◌, ◌++◌, List, subst, string_bytes}
use Rattle.std.specs.Prelude.{OnOk, codes}
use Rattle.event_lines.specs.FieldViews.{FieldView}
use Rattle.event_lines.specs.ReportLines.{line_of, number_field, signed_field}
use Rattle.event_lines.proofs.Fields.{six}
use Rattle.event_lines.proofs.rule_lines.write_clock_window.Goals as goal

pub returns : goal.returns
returns c =
    let e = c.args.e.now in
    let f_0 : c.number.result ≡ number_field (codes "number") e.number = search rules in
    let f_1 : c.number-2.result ≡ number_field (codes "pid") e.pid = search rules in
    let f_2 : c.number-3.result ≡ number_field (codes "references") e.references = search rules in
    let f_3 : c.number-4.result ≡ number_field (codes "interval") e.interval = search rules in
    let f_4 : c.number-5.result ≡ number_field (codes "inaccuracy") e.inaccuracy = search rules in
    let f_5 : c.signed.result ≡ signed_field (codes "drift") e.ahead e.behind = search rules in
    subst (λ (fields : List FieldView). OnOk c.write_line.result (string_bytes c.write_line.new.text
    ≡ string_bytes c.args.text.now ++ line_of c.args.json (codes "clock_window") fields))
    (six c.number.result c.number-2.result c.number-3.result c.number-4.result c.number-5.result c.signed.result _ _ _ _ _ _ f_0 f_1 f_2 f_3 f_4 f_5)
    c.write_line.ensures
