use Rattle.std.proofs.Common.{rules, ◌≡◌, ◌++◌, ◌%◌, string_bytes}
use Rattle.std.specs.Prelude.{codes}
use Rattle.page_curves.specs.Frames.{slots_of}
use Rattle.page_curves.specs.Paths.{numbered, point}
use Rattle.page_curves.specs.Scale.{across}
use Rattle.page_charts.specs.Stacks as spec
use Rattle.page_curves.proofs.Texts.{pushed, three}
use Rattle.page_charts.proofs.stack.write_area.Goals as goal

pub returns : goal.returns
unfolding spec.area
returns c =
    let f = c.args.frame.now in
    let curve = c.args.entry.now.curve in
    let class = c.args.number % 16 in
    let head : string_bytes c.write_area_head.new.text ≡ string_bytes c.args.text.now ++ spec.area_head class (across (slots_of f curve.span) 0) =
    search rules in
    let points : string_bytes c.write_points.new.text ≡ string_bytes c.write_area_head.new.text ++ numbered (point f curve.span) 0 curve.slots = search rules in
    three c.push_str.result (string_bytes c.args.text.now) (string_bytes c.write_area_head.new.text) (string_bytes c.write_points.new.text)
    (string_bytes c.push_str.new.self)
    (spec.area_head class (across (slots_of f curve.span) 0)) (numbered (point f curve.span) 0 curve.slots) (codes "h20V2200z\"/>\n")
    head points
    (pushed c.push_str.result (string_bytes c.write_points.new.text) (string_bytes c.push_str.new.self) (codes "h20V2200z\"/>\n") c.push_str.ensures.bytes)
