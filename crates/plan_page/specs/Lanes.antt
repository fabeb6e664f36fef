-- Which slots each item owns: a line for each, in a row of its own. A slot is a unit of the picture wide (SVG 2, 8.2 and 9.3).
use Rattle.std.specs.Prelude.{ℕ, ◌-◌, ◌*◌, ◌/◌, ◌^◌, min, if◌then◌else◌, List, [], ◌++◌, codes, decimal, flat_map, length}
use Rattle.page_curves.specs.Numbers.{tenths}
use Rattle.slot_plan.specs.Numbered.{numbered}
use Rattle.slot_plan.specs.declared.slot.Slot.{Slot}
use Rattle.slot_plan.specs.declared.slot.Item.TheVariants.{Stream, Pcr, Table, System}
use Rattle.plan_page.specs.declared.lanes.TheConstants.{QUARTERS}
use Rattle.plan_page.specs.declared.owners.Owner.{Owner}
use Rattle.plan_page.specs.declared.owners.Owner.TheVariants.{Item, Null}
use Rattle.plan_page.specs.declared.plan_items.PlanItem.{PlanItem}
use Rattle.plan_page.specs.Owners.{owns}
use Rattle.plan_page.specs.PlanItems.{word}

-- a number of slots of 188 bytes as a time in units of 90 kHz, rounded down, and such a time in ms
abbrev pub time_of : ℕ → ℕ → ℕ
time_of slots rate = min (slots * 135360000) (2 ^ 64 - 1) / rate

unfoldable pub millis : ℕ → List ℕ
millis time = tenths time 90

-- how the row of an item begins
unfoldable pub row_head : ℕ → List ℕ → List ℕ
row_head pid name = codes "<tr><td>" ++ (decimal pid ++ (codes "<td class=\"word\">" ++ name))

abbrev pub label : PlanItem → List ℕ
label item = row_head item.pid (word item.name)

-- a line in the middle of each slot that is the owner's
abbrev pub tick : Owner → ℕ → Slot → List ℕ
tick owner number slot = if owns owner slot then codes "M" ++ (decimal number ++ codes ".5 0V1") else []

unfoldable pub ticks : Owner → List Slot → List ℕ
ticks owner slots = numbered (tick owner) 0 slots

unfoldable pub lane_class : Owner → List ℕ
lane_class (Item (Stream n)) = codes "stream"
lane_class (Item (Pcr n)) = codes "clock"
lane_class (Item (Table n)) = codes "table"
lane_class (Item (System n)) = codes "table"
lane_class Null = codes "null"

unfoldable pub lane_head : List ℕ → ℕ → List ℕ
lane_head class count = codes "<td class=\"slots\"><svg class=\"lane\" viewBox=\"0 0 " ++ (decimal count
    ++ (codes " 1\" preserveAspectRatio=\"none\" role=\"img\"><path class=\"" ++ (class ++ codes "\" d=\"")))

unfoldable pub lane : List Slot → PlanItem → List ℕ
lane slots item = label item ++ (lane_head (lane_class item.owner) (length slots) ++ (ticks item.owner slots ++ codes "\"/></svg>\n"))

unfoldable pub each_lane : List Slot → List PlanItem → List ℕ
each_lane slots items = flat_map (lane slots) items

-- the scale: at each quarter the slot that begins there or before, and its moment
abbrev pub quarter_slot : ℕ → ℕ → ℕ
quarter_slot count q = min (count * q) (2 ^ 64 - 1) / 4

unfoldable pub quarter : ℕ → ℕ → ℕ → List ℕ
quarter rate count q =
    codes "<span>" ++ (decimal (quarter_slot count q) ++ (codes "<br>" ++ (millis (time_of (quarter_slot count q) rate) ++ codes " ms</span>")))

unfoldable pub scale : ℕ → ℕ → List ℕ → List ℕ
scale rate count quarters = flat_map (quarter rate count) quarters

unfoldable pub lanes : ℕ → List Slot → List PlanItem → List ℕ
lanes rate slots items = codes "<div class=\"wide\"><table class=\"lanes\"><tr><th>PID<th class=\"word\">item<th>\n" ++ (each_lane slots items
    ++ (codes "<tr><td><td class=\"word\">slot<td class=\"slots\"><div class=\"scale\">" ++ (scale rate (length slots) QUARTERS
    ++ codes "</div>\n</table></div>\n")))
