use Rattle.std.proofs.Common.{rules, ◌≡◌, ◌++◌, List, subst, string_bytes}
use Rattle.std.specs.Prelude.{OnOk, codes}
use Rattle.event_lines.specs.FieldViews.{FieldView}
use Rattle.event_lines.specs.ReportLines.{line_of, number_field}
use Rattle.event_lines.proofs.Fields.{six}
use Rattle.event_lines.proofs.figure_lines.write_clock.Goals as goal

pub returns : goal.returns
returns c =
    let e = c.args.e.now in
    let f_pid : c.number.result ≡ number_field (codes "pid") e.pid = search rules in
    let f_references : c.number-2.result ≡ number_field (codes "references") e.references = search rules in
    let f_announced : c.number-3.result ≡ number_field (codes "announced") e.announced = search rules in
    let f_rate : c.number-4.result ≡ number_field (codes "rate") e.rate = search rules in
    let f_interval : c.number-5.result ≡ number_field (codes "interval") e.interval = search rules in
    let f_inaccuracy : c.number-6.result ≡ number_field (codes "inaccuracy") e.inaccuracy = search rules in
    subst (λ (fields : List FieldView). OnOk c.write_line.result (string_bytes c.write_line.new.text
    ≡ string_bytes c.args.text.now ++ line_of c.args.json (codes "clock") fields))
    (six c.number.result c.number-2.result c.number-3.result c.number-4.result c.number-5.result c.number-6.result _ _ _ _ _ _ f_pid f_references f_announced
    f_rate f_interval f_inaccuracy)
    c.write_line.ensures
