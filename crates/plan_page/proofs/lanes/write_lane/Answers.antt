use Rattle.std.proofs.Common.{◌≡◌, ◌∙◌, ◌++◌, List, ℕ, ap, length, string_bytes}
use Rattle.std.specs.Prelude.{codes}
use Rattle.page_curves.proofs.Texts.{four, pushed}
use Rattle.plan_page.specs.Lanes as spec
use Rattle.plan_page.proofs.lanes.write_lane.Goals as goal

pub returns : goal.returns
unfolding spec.lane
returns c =
    let slots = c.args.slots.now in
    let owner = c.args.item.owner in
    let head : string_bytes c.write_lane_head.new.text ≡ string_bytes c.write_label.new.text ++ spec.lane_head (spec.lane_class owner) (length slots) =
    c.in_ok-write_lane_head.ensures ∙ ap (λ (class : List ℕ). string_bytes c.write_label.new.text ++ spec.lane_head class (length slots))
    c.lane_class.ensures in
    four c.push_str.result (string_bytes c.args.text.now) (string_bytes c.write_label.new.text) (string_bytes c.write_lane_head.new.text)
    (string_bytes c.write_ticks.new.text)
    (string_bytes c.push_str.new.self) (spec.label c.args.item) (spec.lane_head (spec.lane_class owner) (length slots)) (spec.ticks owner slots)
    (codes "\"/></svg>\n")
    c.in_ok-write_label.ensures head c.in_ok-write_ticks.ensures
    (pushed c.push_str.result (string_bytes c.write_ticks.new.text) (string_bytes c.push_str.new.self) (codes "\"/></svg>\n") c.push_str.ensures.bytes)
