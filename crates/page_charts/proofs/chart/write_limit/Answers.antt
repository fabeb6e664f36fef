use Rattle.std.proofs.Common.{rules, ◌≡◌, ◌++◌, string_bytes}
use Rattle.std.specs.Prelude.{OnOk, codes}
use Rattle.page_charts.specs.Charts as spec
use Rattle.page_curves.specs.Frames.{top_value}
use Rattle.page_curves.specs.Paths.{numbered, over}
use Rattle.page_curves.specs.Scale.{height_of}
use Rattle.page_curves.proofs.Texts.{three}
use Rattle.page_charts.proofs.chart.write_limit.Goals as goal

pub returns : goal.returns
unfolding spec.limit
returns c =
    let f = c.args.frame.now in
    let entry = c.args.entry.now in
    let overs : string_bytes c.write_overs.new.text ≡ string_bytes c.push_str.new.self ++ numbered (over f entry.limit entry.curve.span) 0 entry.curve.slots =
    search rules in
    let line : OnOk c.write_limit_line.result
    (string_bytes c.write_limit_line.new.text ≡ string_bytes c.write_overs.new.text ++ spec.limit_line f.unit entry.limit (height_of (top_value f) entry.limit))
    =
    search rules in
    three c.write_limit_line.result (string_bytes c.args.text.now) (string_bytes c.push_str.new.self) (string_bytes c.write_overs.new.text)
    (string_bytes c.write_limit_line.new.text)
    (codes "<path class=\"over\" d=\"") (numbered (over f entry.limit entry.curve.span) 0 entry.curve.slots)
    (spec.limit_line f.unit entry.limit (height_of (top_value f) entry.limit))
    c.in_ok-push_str.ensures.bytes overs line
