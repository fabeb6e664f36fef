-- The slots of each item as numbers.
use Rattle.std.specs.Prelude.{ℕ, if◌then◌else◌, List, [], ◌++◌, codes, decimal, flat_map}
use Rattle.slot_plan.specs.Numbered.{numbered}
use Rattle.slot_plan.specs.declared.slot.Slot.{Slot}
use Rattle.plan_page.specs.declared.owners.Owner.{Owner}
use Rattle.plan_page.specs.declared.plan_items.PlanItem.{PlanItem}
use Rattle.plan_page.specs.Owners.{owns}
use Rattle.plan_page.specs.Lanes.{label}

abbrev pub number_text : Owner → ℕ → Slot → List ℕ
number_text owner number slot = if owns owner slot then codes " " ++ decimal number else []

unfoldable pub numbers : Owner → List Slot → List ℕ
numbers owner slots = numbered (number_text owner) 0 slots

unfoldable pub slot_row : List Slot → PlanItem → List ℕ
slot_row slots item = label item ++ (codes "<td class=\"list\">" ++ (numbers item.owner slots ++ codes "\n"))

unfoldable pub slot_rows : List Slot → List PlanItem → List ℕ
slot_rows slots items = flat_map (slot_row slots) items

unfoldable pub slot_lists : List Slot → List PlanItem → List ℕ
slot_lists slots items = codes "<details><summary>These numbers</summary><table><tr><th>PID<th class=\"word\">item<th class=\"word\">its slots\n"
    ++ (slot_rows slots items ++ codes "</table></details>\n")
