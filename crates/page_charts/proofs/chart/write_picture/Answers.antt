use Rattle.std.proofs.Common.{string_bytes}
use Rattle.std.specs.Prelude.{codes, flat_map}
use Rattle.page_charts.specs.Charts as spec
use Rattle.page_curves.specs.Frames.{scales_text}
use Rattle.page_curves.proofs.Texts.{four, pushed}
use Rattle.page_charts.proofs.chart.write_picture.Goals as goal

pub returns : goal.returns
unfolding spec.picture
returns c = four c.push_str.result (string_bytes c.args.text.now) (string_bytes c.write_picture_head.new.text) (string_bytes c.write_scales.new.text)
    (string_bytes c.write_curves.new.text)
    (string_bytes c.push_str.new.self) (spec.picture_head c.args.name.now) (scales_text c.args.frame.now)
    (flat_map (spec.curve c.args.frame.now c.args.labels.now c.args.order.now) c.args.curves.now) (codes "</svg>\n")
    c.in_ok-write_picture_head.ensures c.in_ok-write_scales.ensures c.in_ok-write_curves.ensures
    (pushed c.push_str.result (string_bytes c.write_curves.new.text) (string_bytes c.push_str.new.self) (codes "</svg>\n") c.push_str.ensures.bytes)
