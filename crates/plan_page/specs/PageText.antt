-- The text of the page of a plan.
use Rattle.std.specs.Prelude.{ℕ, nat_lt, if◌then◌else◌, List, [], ◌++◌, codes, decimal, length, take}
use Rattle.description_parts.specs.Described.{Described}
use Rattle.slot_plan.specs.declared.slot.Slot.{Slot}
use Rattle.slot_plan.specs.Planned.{Planned}
use Rattle.plan_page.specs.declared.owners.Owner.TheVariants.{Null}
use Rattle.plan_page.specs.declared.plan_items.PlanItem.{PlanItem}
use Rattle.plan_page.specs.declared.page_text.TheConstants.{BACK, CLOSER, FRONT, ITEMS, PERIOD}
use Rattle.plan_page.specs.Owners.{count_in}
use Rattle.plan_page.specs.PlanItems.{plan_items}
use Rattle.plan_page.specs.Lanes.{lanes, millis, time_of}
use Rattle.plan_page.specs.SlotLists.{slot_lists}
use Rattle.plan_page.specs.ItemRows.{item_rows, share}

-- texts that are always the same
unfoldable pub front_text : List ℕ
front_text = FRONT.now

unfoldable pub period_text : List ℕ
period_text = PERIOD.now

unfoldable pub closer_text : List ℕ
closer_text = CLOSER.now

unfoldable pub items_text : List ℕ
items_text = ITEMS.now

unfoldable pub back_text : List ℕ
back_text = BACK.now

-- the rate, the period, and how many of its slots are null packets
unfoldable pub rate_words : ℕ → ℕ → List ℕ
rate_words rate count = codes "<p>" ++ (decimal rate ++ (codes " bit/s. A period has " ++ (decimal count ++ codes " slots of 188 bytes, and takes ")))

unfoldable pub period_words : ℕ → ℕ → List ℕ
period_words rate count = rate_words rate count ++ (millis (time_of count rate) ++ codes " ms. ")

unfoldable pub count_words : ℕ → List ℕ
count_words count = decimal count ++ codes " of them, "

unfoldable pub null_words : ℕ → ℕ → List ℕ
null_words count all = count_words count ++ (share count all ++ codes " %, are null packets.</p>\n")

abbrev pub summary : ℕ → List Slot → List ℕ
summary rate slots = period_words rate (length slots) ++ null_words (count_in Null slots) (length slots)

-- the owner of each slot: of the whole period, and of its first 256 slots if there are more; and as numbers
abbrev pub closer : ℕ → List Slot → List PlanItem → List ℕ
closer rate slots items = if nat_lt 256 (length slots) then closer_text ++ lanes rate (take 256 slots) items else []

unfoldable pub pictures : ℕ → List Slot → List PlanItem → List ℕ
pictures rate slots items = period_text ++ (lanes rate slots items ++ (closer rate slots items ++ slot_lists slots items))

abbrev pub page_of : ℕ → List Slot → List PlanItem → List ℕ
page_of rate slots items = front_text ++ (summary rate slots ++ (pictures rate slots items ++ (items_text ++ (item_rows rate slots items ++ back_text))))

abbrev pub page_text : Described → Planned → List ℕ
page_text d p = page_of d.rate p.slots (plan_items d)
