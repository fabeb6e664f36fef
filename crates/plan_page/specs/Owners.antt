-- What a slot of a plan is for: an item, or null packets.
use Rattle.std.specs.Prelude.{ℕ, Bool, true, false, nat_lt, if◌then◌else◌, List, length, filter, Option, Some, None}
use Rattle.own_slots.specs.Period.{per_period}
use Rattle.own_slots.specs.Gaps.{gap}
use Rattle.slot_plan.specs.declared.slot.Slot.{Slot}
use Rattle.slot_plan.specs.declared.slot.Slot.TheVariants as slots
use Rattle.slot_plan.specs.declared.slot.Item.{Item as PlannedItem}
use Rattle.slot_plan.specs.Items.{is_own, marks}
use Rattle.plan_page.specs.declared.owners.Owner.{Owner}
use Rattle.plan_page.specs.declared.owners.Owner.TheVariants.{Item, Null}

abbrev pub is_null : Slot → Bool
is_null slots.Null = true
is_null (slots.Stream n) = false
is_null (slots.Pcr n) = false
is_null (slots.Table n) = false

unfoldable pub owns : Owner → Slot → Bool
owns (Item item) slot = is_own item slot
owns Null slot = is_null slot

-- how many of these slots it owns
abbrev pub count_in : Owner → List Slot → ℕ
count_in owner slots = length (filter (owns owner) slots)

-- the greatest distance from an own slot to the row-th own slot after it, round the period's end too; none if there is no slot
abbrev pub item_gap : PlannedItem → List Slot → ℕ → Option ℕ
item_gap item slots row = if nat_lt 0 (per_period (marks item slots)) then Some (gap (marks item slots) row) else None

unfoldable pub gap_in : Owner → List Slot → ℕ → Option ℕ
gap_in (Item item) slots row = item_gap item slots row
gap_in Null slots row = None
