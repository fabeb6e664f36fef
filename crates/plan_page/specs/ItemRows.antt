-- The slots of each item: its share, and its greatest gap with its limit.
use Rattle.std.specs.Prelude.{ℕ, ◌*◌, ◌/◌, nat_lt, if◌then◌else◌, List, [], ◌++◌, codes, decimal, flat_map, length, Option, Some, None}
use Rattle.page_curves.specs.Numbers.{grouped, tenths}
use Rattle.slot_plan.specs.declared.slot.Slot.{Slot}
use Rattle.plan_page.specs.declared.plan_items.PlanItem.{PlanItem}
use Rattle.plan_page.specs.Owners.{count_in, gap_in}
use Rattle.plan_page.specs.PlanItems.{limit_word}
use Rattle.plan_page.specs.Lanes.{label, millis, time_of}

abbrev pub program_text : ℕ → List ℕ
program_text program = if nat_lt 0 program then decimal program else []

-- a count of slots in per cent of all, and the number, the share and the bit rate of these slots
unfoldable pub share : ℕ → ℕ → List ℕ
share count all = tenths (count * 100) all

unfoldable pub share_cells : ℕ → ℕ → ℕ → List ℕ
share_cells rate count all = codes "<td>" ++ (decimal count ++ (codes "<td>" ++ (share count all ++ (codes "<td>" ++ grouped (rate * count / all)))))

-- a time and its limit, as a bar that ends at the limit
unfoldable pub bar : ℕ → ℕ → List ℕ
bar time limit = codes "<td><svg class=\"bar\" viewBox=\"0 0 " ++ (decimal limit
    ++ (codes " 1\" preserveAspectRatio=\"none\" role=\"img\"><path d=\"M0 .5H" ++ (decimal time ++ codes "\"/></svg>")))

unfoldable pub word_cell : List ℕ → List ℕ
word_cell word = codes "<td class=\"word\">" ++ word

-- the limit of an item's gaps, and the name of the limit
unfoldable pub limit_cells : PlanItem → List ℕ
limit_cells item = codes "<td>" ++ (millis item.limit ++ word_cell (limit_word item.limit_name))

-- over how many slots in a row, the greatest gap in slots and in ms, its limit, and both as a bar
unfoldable pub gap_head : ℕ → ℕ → List ℕ
gap_head row gap = codes "<td>" ++ (decimal row ++ (codes "<td>" ++ (decimal gap ++ codes "<td>")))

unfoldable pub gap_cells : ℕ → PlanItem → ℕ → List ℕ
gap_cells rate item gap = gap_head item.row gap ++ (millis (time_of gap rate) ++ (limit_cells item ++ bar (time_of gap rate) item.limit))

-- empty cells if there is no gap
unfoldable pub gap_cells_if : ℕ → PlanItem → Option ℕ → List ℕ
gap_cells_if rate item None = codes "<td colspan=\"6\">"
gap_cells_if rate item (Some gap) = gap_cells rate item gap

unfoldable pub item_row : ℕ → List Slot → PlanItem → List ℕ
item_row rate slots item = label item ++ (codes "<td>" ++ (program_text item.program ++ (share_cells rate (count_in item.owner slots) (length slots)
    ++ (gap_cells_if rate item (gap_in item.owner slots item.row) ++ codes "\n"))))

unfoldable pub item_rows : ℕ → List Slot → List PlanItem → List ℕ
item_rows rate slots items = flat_map (item_row rate slots) items
