use Rattle.std.proofs.Common.{rules, ◌≡◌, ◌++◌, List, subst, string_bytes}
use Rattle.std.specs.Prelude.{OnOk, codes}
use Rattle.event_lines.specs.FieldViews.{FieldView}
use Rattle.events.specs.PidNames.{line_word}
use Rattle.event_lines.specs.ReportLines.{line_of, number_field, word_field}
use Rattle.event_lines.proofs.Fields.{seven}
use Rattle.event_lines.proofs.packet_lines.write_stream.Goals as goal

pub returns : goal.returns
returns c =
    let e = c.args.e.now in
    let f_pid : c.number.result ≡ number_field (codes "pid") e.pid = search rules in
    let f_program : c.number-2.result ≡ number_field (codes "program") e.program = search rules in
    let f_type : c.number-3.result ≡ number_field (codes "type") e.stream_type = search rules in
    let f_coding : c.word.result ≡ word_field (codes "coding") (line_word e.coding) = search rules in
    let f_rx : c.number-4.result ≡ number_field (codes "rx") e.rx = search rules in
    let f_main : c.number-5.result ≡ number_field (codes "main") e.main = search rules in
    let f_packet : c.number-6.result ≡ number_field (codes "packet") e.packet = search rules in
    subst (λ (fields : List FieldView). OnOk c.write_line.result (string_bytes c.write_line.new.text
    ≡ string_bytes c.args.text.now ++ line_of c.args.json (codes "stream") fields))
    (seven c.number.result c.number-2.result c.number-3.result c.word.result c.number-4.result c.number-5.result c.number-6.result _ _ _ _ _ _ _ f_pid f_program
    f_type f_coding f_rx f_main f_packet)
    c.write_line.ensures
