use Rattle.std.proofs.Common.{string_bytes}
use Rattle.std.specs.Prelude.{codes}
use Rattle.page_curves.proofs.Texts.{four, pushed}
use Rattle.plan_page.specs.Lanes.{label}
use Rattle.plan_page.specs.SlotLists as spec
use Rattle.plan_page.proofs.slot_lists.write_row.Goals as goal

pub returns : goal.returns
unfolding spec.slot_row
returns c = four c.push_str-2.result (string_bytes c.args.text.now) (string_bytes c.write_label.new.text) (string_bytes c.push_str.new.self)
    (string_bytes c.write_numbers.new.text)
    (string_bytes c.push_str-2.new.self) (label c.args.item) (codes "<td class=\"list\">") (spec.numbers c.args.item.owner c.args.slots.now) (codes "\n")
    c.in_ok-write_label.ensures c.in_ok-push_str.ensures.bytes c.in_ok-write_numbers.ensures
    (pushed c.push_str-2.result (string_bytes c.write_numbers.new.text) (string_bytes c.push_str-2.new.self) (codes "\n") c.push_str-2.ensures.bytes)
