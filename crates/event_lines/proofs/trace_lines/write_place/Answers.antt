use Rattle.std.proofs.Common.{rules, ◌≡◌, ◌++◌, List, subst, string_bytes}
use Rattle.std.specs.Prelude.{OnOk, codes}
use Rattle.event_lines.specs.FieldViews.{FieldView}
use Rattle.event_lines.specs.ReportLines.{line_of, number_field, word_field}
use Rattle.events.specs.BufferKinds.{word_of}
use Rattle.event_lines.proofs.Fields.{four}
use Rattle.event_lines.proofs.trace_lines.write_place.Goals as goal

pub returns : goal.returns
returns c =
    let e = c.args.e.now in
    let f_0 : c.number.result ≡ number_field (codes "pid") e.pid = search rules in
    let f_1 : c.word-2.result ≡ word_field (codes "buffer") (word_of e.buffer) = search rules in
    let f_2 : c.number-2.result ≡ number_field (codes "packet") e.packet = search rules in
    let f_3 : c.number-3.result ≡ number_field (codes "left") e.left = search rules in
    subst (λ (fields : List FieldView). OnOk c.write_line.result (string_bytes c.write_line.new.text
    ≡ string_bytes c.args.text.now ++ line_of c.args.json (codes "fault_trace") fields))
    (four c.number.result c.word-2.result c.number-2.result c.number-3.result _ _ _ _ f_0 f_1 f_2 f_3)
    c.write_line.ensures
