use Rattle.std.proofs.Common.{rules, ◌≡◌, ◌++◌, List, subst, string_bytes}
use Rattle.std.specs.Prelude.{OnOk, codes}
use Rattle.event_lines.specs.FieldViews.{FieldView}
use Rattle.event_lines.specs.ReportLines.{line_of, number_field}
use Rattle.event_lines.proofs.Fields.{seven}
use Rattle.event_lines.proofs.figure_lines.write_system.Goals as goal

pub returns : goal.returns
returns c =
    let e = c.args.e.now in
    let f_program : c.number.result ≡ number_field (codes "program") e.program = search rules in
    let f_transport : c.number-2.result ≡ number_field (codes "transport") e.transport = search rules in
    let f_transport_size : c.number-3.result ≡ number_field (codes "transport_size") e.transport_size = search rules in
    let f_transport_excesses : c.number-4.result ≡ number_field (codes "transport_excesses") e.transport_excesses = search rules in
    let f_main : c.number-5.result ≡ number_field (codes "main") e.main = search rules in
    let f_main_size : c.number-6.result ≡ number_field (codes "main_size") e.main_size = search rules in
    let f_main_excesses : c.number-7.result ≡ number_field (codes "main_excesses") e.main_excesses = search rules in
    subst (λ (fields : List FieldView). OnOk c.write_line.result (string_bytes c.write_line.new.text
    ≡ string_bytes c.args.text.now ++ line_of c.args.json (codes "system") fields))
    (seven c.number.result c.number-2.result c.number-3.result c.number-4.result c.number-5.result c.number-6.result c.number-7.result _ _ _ _ _ _ _ f_program
    f_transport f_transport_size f_transport_excesses f_main f_main_size f_main_excesses)
    c.write_line.ensures
