use Rattle.std.proofs.Common.{rules, ◌≡◌, ◌++◌, ℕ, List, [], ◌∷◌, subst, string_bytes}
use Rattle.std.specs.Prelude.{OnOk, codes}
use Rattle.events.specs.FaultKinds.{word_of}
use Rattle.event_lines.specs.FieldViews.{FieldView}
use Rattle.event_lines.specs.ReportLines.{line_of, number_field}
use Rattle.event_lines.proofs.Fields.{five}
use Rattle.event_lines.proofs.packet_lines.write_table_fault.Goals as goal

pub returns : goal.returns
returns c =
    let e = c.args.e.now in
    let f_pid : c.number.result ≡ number_field (codes "pid") e.pid = search rules in
    let f_table : c.number-2.result ≡ number_field (codes "table") e.table = search rules in
    let f_packet : c.number-3.result ≡ number_field (codes "packet") e.packet = search rules in
    let f_value : c.number-4.result ≡ number_field (codes "value") e.value = search rules in
    let f_limit : c.number-5.result ≡ number_field (codes "limit") e.limit = search rules in
    subst (λ (fields : List FieldView). OnOk c.write_line.result (string_bytes c.write_line.new.text
    ≡ string_bytes c.args.text.now ++ line_of c.args.json (word_of c.args.kind) fields))
    (five c.number.result c.number-2.result c.number-3.result c.number-4.result c.number-5.result _ _ _ _ _ f_pid f_table f_packet f_value f_limit)
    (subst (λ (w : List ℕ). OnOk c.write_line.result (string_bytes c.write_line.new.text ≡ string_bytes c.args.text.now ++ line_of c.args.json w
    (c.number.result ∷ c.number-2.result ∷ c.number-3.result ∷ c.number-4.result ∷ c.number-5.result ∷ []))) c.word.ensures c.write_line.ensures)
