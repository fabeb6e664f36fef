use Rattle.std.proofs.Common.{rules, ◌≡◌, ◌++◌, List, subst, string_bytes}
use Rattle.std.specs.Prelude.{OnOk, codes}
use Rattle.event_lines.specs.FieldViews.{FieldView}
use Rattle.event_lines.specs.ReportLines.{line_of, number_field}
use Rattle.event_lines.proofs.Fields.{five}
use Rattle.event_lines.proofs.mark_lines.write_marks.Goals as goal

pub returns : goal.returns
returns c =
    let e = c.args.e.now in
    let f_pid : c.number.result ≡ number_field (codes "pid") e.pid = search rules in
    let f_units : c.number-2.result ≡ number_field (codes "units") e.units = search rules in
    let f_access : c.number-3.result ≡ number_field (codes "access") e.access = search rules in
    let f_distance : c.number-4.result ≡ number_field (codes "distance") e.distance = search rules in
    let f_aligned : c.number-5.result ≡ number_field (codes "aligned") e.aligned = search rules in
    subst (λ (fields : List FieldView). OnOk c.write_line.result (string_bytes c.write_line.new.text
    ≡ string_bytes c.args.text.now ++ line_of c.args.json (codes "marks") fields))
    (five c.number.result c.number-2.result c.number-3.result c.number-4.result c.number-5.result _ _ _ _ _ f_pid f_units f_access f_distance f_aligned)
    c.write_line.ensures
