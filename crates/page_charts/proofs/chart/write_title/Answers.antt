use Rattle.std.proofs.Common.{rules, ◌≡◌, ◌++◌, string_bytes}
use Rattle.std.specs.Prelude.{OnOk, codes}
use Rattle.page_charts.specs.Charts as spec
use Rattle.page_curves.specs.PidLabels.{pid_text}
use Rattle.page_curves.proofs.Texts.{pushed, three}
use Rattle.page_charts.proofs.chart.write_title.Goals as goal

pub returns : goal.returns
unfolding spec.title
returns c =
    let entry = c.args.entry.now in
    let name : string_bytes c.write_pid.new.text ≡ string_bytes c.push_str.new.self ++ pid_text c.args.labels.now entry.pid entry.name = search rules in
    three c.push_str-2.result (string_bytes c.args.text.now) (string_bytes c.push_str.new.self) (string_bytes c.write_pid.new.text)
    (string_bytes c.push_str-2.new.self)
    (codes "h20\"><title>") (pid_text c.args.labels.now entry.pid entry.name) (codes "</title></path>\n")
    c.in_ok-push_str.ensures.bytes name
    (pushed c.push_str-2.result (string_bytes c.write_pid.new.text) (string_bytes c.push_str-2.new.self) (codes "</title></path>\n") c.push_str-2.ensures.bytes)
