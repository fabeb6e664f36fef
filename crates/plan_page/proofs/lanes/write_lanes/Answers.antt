use Rattle.std.proofs.Common.{length, string_bytes}
use Rattle.std.specs.Prelude.{codes, ◌++◌}
use Rattle.page_curves.proofs.Texts.{four, pushed, two}
use Rattle.plan_page.specs.declared.lanes.TheConstants.{QUARTERS}
use Rattle.plan_page.specs.Lanes as spec
use Rattle.plan_page.proofs.lanes.write_lanes.Goals as goal

pub returns : goal.returns
unfolding spec.lanes
returns c =
    let head = codes "<div class=\"wide\"><table class=\"lanes\"><tr><th>PID<th class=\"word\">item<th>\n" in
    let row = codes "<tr><td><td class=\"word\">slot<td class=\"slots\"><div class=\"scale\">" in
    let end = codes "</div>\n</table></div>\n" in
    let each = spec.each_lane c.args.slots.now c.args.items.now in
    let scale = spec.scale c.args.rate (length c.args.slots.now) QUARTERS in
    two c.push_str-3.result (string_bytes c.args.text.now) (string_bytes c.push_str.new.self) (string_bytes c.push_str-3.new.self) head
    (each ++ (row ++ (scale ++ end)))
    c.in_ok-push_str.ensures.bytes
    (four c.push_str-3.result (string_bytes c.push_str.new.self) (string_bytes c.write_each_lane.new.text) (string_bytes c.push_str-2.new.self)
    (string_bytes c.write_quarters.new.text)
    (string_bytes c.push_str-3.new.self) each row scale end c.in_ok-write_each_lane.ensures c.in_ok-push_str-2.ensures.bytes c.in_ok-write_quarters.ensures
    (pushed c.push_str-3.result (string_bytes c.write_quarters.new.text) (string_bytes c.push_str-3.new.self) end c.push_str-3.ensures.bytes))
