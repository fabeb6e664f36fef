use Rattle.std.proofs.Common.{rules, ◌≡◌, ◌++◌, ℕ, List, [], ◌∷◌, subst, string_bytes}
use Rattle.std.specs.Prelude.{OnOk, codes}
use Rattle.events.specs.BufferKinds.{word_of}
use Rattle.event_lines.specs.FieldViews.{FieldView}
use Rattle.event_lines.specs.ReportLines.{line_of, number_field}
use Rattle.event_lines.proofs.Fields.{four}
use Rattle.event_lines.proofs.figure_lines.write_bytes.Goals as goal

pub returns : goal.returns
returns c =
    let e = c.args.e.now in
    let f_pid : c.number.result ≡ number_field (codes "pid") e.pid = search rules in
    let f_most : c.number-2.result ≡ number_field (codes "most") e.most = search rules in
    let f_size : c.number-3.result ≡ number_field (codes "size") e.size = search rules in
    let f_excesses : c.number-4.result ≡ number_field (codes "excesses") e.excesses = search rules in
    subst (λ (fields : List FieldView). OnOk c.write_line.result (string_bytes c.write_line.new.text
    ≡ string_bytes c.args.text.now ++ line_of c.args.json (word_of e.buffer) fields))
    (four c.number.result c.number-2.result c.number-3.result c.number-4.result _ _ _ _ f_pid f_most f_size f_excesses)
    (subst (λ (w : List ℕ). OnOk c.write_line.result (string_bytes c.write_line.new.text ≡ string_bytes c.args.text.now ++ line_of c.args.json w
    (c.number.result ∷ c.number-2.result ∷ c.number-3.result ∷ c.number-4.result ∷ []))) c.word.ensures c.write_line.ensures)
