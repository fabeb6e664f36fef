use Rattle.std.proofs.Common.{rules, ◌≡◌, ◌++◌, string_bytes}
use Rattle.std.specs.Prelude.{codes, flat_map}
use Rattle.page_charts.specs.StripTables as spec
use Rattle.page_charts.specs.declared.strip_table.TheConstants.{STEP_COUNTS}
use Rattle.page_curves.proofs.Texts.{pushed, three}
use Rattle.page_charts.proofs.strip_table.write_head.Goals as goal

pub returns : goal.returns
unfolding spec.head
returns c =
    let steps : string_bytes c.write_axis_steps.new.text ≡ string_bytes c.push_str.new.self ++ flat_map (spec.axis_step c.args.frame.now) STEP_COUNTS =
    search rules in
    three c.push_str-2.result (string_bytes c.args.text.now) (string_bytes c.push_str.new.self) (string_bytes c.write_axis_steps.new.text)
    (string_bytes c.push_str-2.new.self)
    (codes "<div class=\"wide\"><table class=\"strips\" aria-labelledby=over-time><tr><th class=word scope=col>stream<th class=word scope=col>buffer<th scope=col>most<th scope=col>size<th scope=col><svg class=\"axis\" viewBox=\"0 0 4000 160\" role=\"img\" aria-label=\"time\">")
    (flat_map (spec.axis_step c.args.frame.now) STEP_COUNTS) (codes "</svg>\n")
    c.in_ok-push_str.ensures.bytes steps
    (pushed c.push_str-2.result (string_bytes c.write_axis_steps.new.text) (string_bytes c.push_str-2.new.self) (codes "</svg>\n") c.push_str-2.ensures.bytes)
