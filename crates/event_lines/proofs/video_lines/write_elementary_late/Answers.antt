use Rattle.std.proofs.Common.{rules, ◌≡◌, ◌++◌, List, subst, string_bytes}
use Rattle.std.specs.Prelude.{OnOk, codes}
use Rattle.event_lines.specs.FieldViews.{FieldView}
use Rattle.event_lines.specs.ReportLines.{line_of, number_field, word_field}
use Rattle.events.specs.LateCauses.{word_of}
use Rattle.event_lines.proofs.Fields.{seven}
use Rattle.event_lines.proofs.video_lines.write_elementary_late.Goals as goal

pub returns : goal.returns
returns c =
    let e = c.args.e.now in
    let f_pid : c.number.result ≡ number_field (codes "pid") e.pid = search rules in
    let f_packet : c.number-2.result ≡ number_field (codes "packet") e.packet = search rules in
    let f_due : c.number-3.result ≡ number_field (codes "due") e.due = search rules in
    let f_left : c.number-4.result ≡ number_field (codes "left") e.left = search rules in
    let f_by : c.number-5.result ≡ number_field (codes "by") e.by = search rules in
    let f_bytes : c.number-6.result ≡ number_field (codes "bytes") e.bytes = search rules in
    let f_cause : c.word-2.result ≡ word_field (codes "cause") (word_of e.cause) = search rules in
    subst (λ (fields : List FieldView). OnOk c.write_line.result (string_bytes c.write_line.new.text
    ≡ string_bytes c.args.text.now ++ line_of c.args.json (codes "elementary_late") fields))
    (seven c.number.result c.number-2.result c.number-3.result c.number-4.result c.number-5.result c.number-6.result c.word-2.result _ _ _ _ _ _ _ f_pid
    f_packet f_due f_left f_by f_bytes f_cause)
    c.write_line.ensures
