use Rattle.std.proofs.Common.{rules, ◌≡◌, ◌++◌, List, subst, string_bytes}
use Rattle.std.specs.Prelude.{OnOk, codes}
use Rattle.event_lines.specs.FieldViews.{FieldView}
use Rattle.event_lines.specs.ReportLines.{line_of, number_field}
use Rattle.event_lines.proofs.Fields.{six}
use Rattle.event_lines.proofs.figure_lines.write_table.Goals as goal

pub returns : goal.returns
returns c =
    let e = c.args.e.now in
    let f_pid : c.number.result ≡ number_field (codes "pid") e.pid = search rules in
    let f_table : c.number-2.result ≡ number_field (codes "table") e.table = search rules in
    let f_sections : c.number-3.result ≡ number_field (codes "sections") e.sections = search rules in
    let f_interval : c.number-4.result ≡ number_field (codes "interval") e.interval = search rules in
    let f_packet : c.number-5.result ≡ number_field (codes "packet") e.packet = search rules in
    let f_limit : c.number-6.result ≡ number_field (codes "limit") e.limit = search rules in
    subst (λ (fields : List FieldView). OnOk c.write_line.result (string_bytes c.write_line.new.text
    ≡ string_bytes c.args.text.now ++ line_of c.args.json (codes "table") fields))
    (six c.number.result c.number-2.result c.number-3.result c.number-4.result c.number-5.result c.number-6.result _ _ _ _ _ _ f_pid f_table f_sections
    f_interval f_packet f_limit)
    c.write_line.ensures
