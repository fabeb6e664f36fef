use Rattle.std.proofs.Common.{rules, ◌≡◌, ◌++◌, List, subst, string_bytes}
use Rattle.std.specs.Prelude.{OnOk, codes}
use Rattle.event_lines.specs.FieldViews.{FieldView}
use Rattle.event_lines.specs.ReportLines.{line_of, number_field, word_field}
use Rattle.events.specs.BufferKinds.{owner_word, word_of}
use Rattle.event_lines.proofs.Fields.{six}
use Rattle.event_lines.proofs.rule_lines.write_stay.Goals as goal

pub returns : goal.returns
returns c =
    let e = c.args.e.now in
    let f_0 : c.number.result ≡ number_field (owner_word e.buffer) e.number = search rules in
    let f_1 : c.word-2.result ≡ word_field (codes "buffer") (word_of e.buffer) = search rules in
    let f_2 : c.number-2.result ≡ number_field (codes "packet") e.packet = search rules in
    let f_3 : c.number-3.result ≡ number_field (codes "begin") e.begin = search rules in
    let f_4 : c.number-4.result ≡ number_field (codes "end") e.end = search rules in
    let f_5 : c.number-5.result ≡ number_field (codes "limit") e.limit = search rules in
    subst (λ (fields : List FieldView). OnOk c.write_line.result (string_bytes c.write_line.new.text
    ≡ string_bytes c.args.text.now ++ line_of c.args.json c.args.line.now fields))
    (six c.number.result c.word-2.result c.number-2.result c.number-3.result c.number-4.result c.number-5.result _ _ _ _ _ _ f_0 f_1 f_2 f_3 f_4 f_5)
    c.write_line.ensures
