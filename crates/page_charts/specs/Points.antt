-- The drawing of a packet near the greatest excess of a buffer: pictures are 64 packets wide, and the most bytes that the buffer held are at their top.
use Rattle.std.specs.Prelude.{ℕ, ◌+◌, ◌-◌, ◌*◌, ◌/◌, ◌%◌, ◌==◌, min, max, Bool, if◌then◌else◌, List, [], ◌++◌, codes, decimal, Option, Some, None}
use Rattle.events.specs.declared.rule_event.TracePoint.{TracePoint}
use Rattle.page_curves.specs.Numbers.{grouped, tenths}

abbrev pub drawn : ℕ → ℕ
drawn value = min value 1000000000000000

abbrev pub height_of : ℕ → ℕ → ℕ
height_of peak value = 2200 - min (drawn value) (drawn peak) * 2000 / max (drawn peak) 1

abbrev pub across : ℕ → ℕ
across row = 900 + 8600 * min row 64 / 64

-- a line from the least number of bytes up to the greatest, or level if the least is not known
unfoldable pub least_or : ℕ → Option ℕ → ℕ
least_or most None = most
least_or most (Some least) = least

unfoldable pub step_text : ℕ → ℕ → ℕ → ℕ → List ℕ
step_text x y z end = codes " " ++ (decimal x ++ (codes " " ++ (decimal y ++ (codes " " ++ (decimal end ++ (codes " " ++ decimal z))))))

abbrev pub step : ℕ → TracePoint → List ℕ
step row p = step_text (across row) (height_of p.peak (least_or p.most p.least)) (height_of p.peak p.most) (across (min row 64 + 1))

-- a line where a unit begins
unfoldable pub unit_text : ℕ → List ℕ
unit_text x = codes "<path style=\"stroke:var(--s2);stroke-width:12;stroke-dasharray:40 30\" d=\"M" ++ (decimal x ++ codes " 200V2240\"/>\n")

abbrev pub unit_if : ℕ → TracePoint → List ℕ
unit_if row p = if p.begins then unit_text (across row) else []

-- a mark where the buffer holds the most
unfoldable pub over_text : ℕ → ℕ → List ℕ
over_text x y = codes "<path class=\"over\" d=\"M" ++ (decimal x ++ (codes " " ++ (decimal y ++ codes "m-35 -80h70l-35 70z\"/>\n")))

abbrev pub over_if : ℕ → TracePoint → List ℕ
over_if row p = if p.most == p.peak then over_text (across (min row 64 + 1)) (height_of p.peak p.most) else []

-- the moment of every sixteenth packet
unfoldable pub moment_head : ℕ → List ℕ
moment_head x = codes "<path class=\"grid\" d=\"M" ++ (decimal x ++ (codes " 200V2240\"/><text class=\"mid\" x=\"" ++ (decimal x ++ codes "\" y=\"2400\">")))

unfoldable pub moment : ℕ → ℕ → List ℕ
moment x left = moment_head x ++ (tenths (drawn left) 27000 ++ codes " ms</text>\n")

abbrev pub moment_if : ℕ → TracePoint → List ℕ
moment_if row p = if row % 16 == 0 then moment (across row) p.left else []

unfoldable pub marks : ℕ → TracePoint → List ℕ
marks row p = moment_if row p ++ (unit_if row p ++ over_if row p)

-- a row of the table: the packet, its moment in ticks, the least and the most, and whether a unit begins
abbrev pub cell : ℕ → List ℕ
cell value = codes "<td>" ++ grouped value

unfoldable pub cell_if : Option ℕ → List ℕ
cell_if None = codes "<td>"
cell_if (Some value) = cell (drawn value)

unfoldable pub begin_cell : Bool → List ℕ
begin_cell begins = if begins then codes "<td>begins\n" else codes "<td>\n"

unfoldable pub place_cells : TracePoint → List ℕ
place_cells p = codes "<tr>" ++ (cell (drawn p.packet) ++ cell (drawn p.left))

unfoldable pub row : TracePoint → List ℕ
row p = place_cells p ++ (cell_if p.least ++ (cell (drawn p.most) ++ begin_cell p.begins))
