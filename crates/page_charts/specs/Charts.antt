-- A picture of curves: their key, their lines beside their limits, and their numbers.
use Rattle.std.specs.Prelude.{ℕ, ◌%◌, ◌==◌, nat_lt, Bool, if◌then◌else◌, List, [], ◌++◌, length, codes, decimal, flat_map, unwrap_or, Option}
use Rattle.std.specs.List.{position}
use Rattle.page_curves.specs.Slots as slots
use Rattle.page_curves.specs.declared.frame.ChartUnit.{ChartUnit}
use Rattle.page_curves.specs.declared.frame.Frame.{Frame}
use Rattle.page_curves.specs.declared.pid_curves.PidCurve.{PidCurve}
use Rattle.page_curves.specs.PidLabels.{LabelsState, pid_text}
use Rattle.page_curves.specs.Scale.{height_of}
use Rattle.page_curves.specs.Frames.{scales_text, top_value, unit_name, value_text}
use Rattle.page_curves.specs.Paths.{low, numbered, numbered_back, over, point}
use Rattle.page_charts.specs.ValueTables as values

-- a PID has the colour and the dashes of its place among these curves
abbrev pub is_of_pid : ℕ → PidCurve → Bool
is_of_pid pid entry = entry.pid == pid

abbrev pub place_of : List PidCurve → ℕ → Option ℕ
place_of order pid = position (is_of_pid pid) order

abbrev pub class_of : List PidCurve → ℕ → ℕ
class_of order pid = unwrap_or (place_of order pid) 0 % 16

-- a piece of a line, and a value with its unit
unfoldable pub sample_text : ℕ → List ℕ
sample_text class = codes "<span><svg class=\"sample\" viewBox=\"0 0 600 120\"><path class=\"line s" ++ (decimal class ++ codes "\" d=\"M0 60H600\"/></svg> ")

abbrev pub with_unit : ChartUnit → ℕ → List ℕ
with_unit unit value = value_text unit value ++ (codes " " ++ (unit_name unit ++ codes "</span>\n"))

-- the key of a curve, after a piece of its line
unfoldable pub key : ChartUnit → LabelsState → List PidCurve → PidCurve → List ℕ
key unit labels order entry =
    sample_text (class_of order entry.pid)
    ++ (pid_text labels entry.pid entry.name ++ (codes ", at most " ++ with_unit unit (slots.greatest_of entry.curve.slots)))

unfoldable pub keys : ChartUnit → LabelsState → List PidCurve → List PidCurve → List ℕ
keys unit labels order curves = codes "<p class=\"key\">" ++ (flat_map (key unit labels order) curves ++ codes "</p>\n")

-- the outline of a curve, along its greatest values and back along its least ones; its band, and the line of its greatest values
unfoldable pub outline : Frame → PidCurve → List ℕ
outline f entry = numbered (point f entry.curve.span) 0 entry.curve.slots ++ numbered_back (low f entry.curve.span) 0 entry.curve.slots

unfoldable pub band : Frame → ℕ → PidCurve → List ℕ
band f class entry = codes "<path class=\"range s" ++ (decimal class ++ (codes "\" d=\"M" ++ (outline f entry ++ codes "z\"/>")))

unfoldable pub title : LabelsState → PidCurve → List ℕ
title labels entry = codes "h20\"><title>" ++ (pid_text labels entry.pid entry.name ++ codes "</title></path>\n")

unfoldable pub line : Frame → LabelsState → ℕ → PidCurve → List ℕ
line f labels class entry =
    codes "<path class=\"line s" ++ (decimal class ++ (codes "\" d=\"M" ++ (numbered (point f entry.curve.span) 0 entry.curve.slots ++ title labels entry)))

-- the parts over a limit, and the limit
unfoldable pub limit_head : ℕ → List ℕ
limit_head y = codes "\"/><path class=\"limit\" d=\"M900 " ++ (decimal y ++ (codes "H9500\"/><text class=\"end\" x=\"9490\" y=\"" ++ (decimal y
    ++ codes "\" dy=\"-.4em\">limit ")))

unfoldable pub limit_line : ChartUnit → ℕ → ℕ → List ℕ
limit_line unit limit y = limit_head y ++ (value_text unit limit ++ codes "</text>\n")

unfoldable pub limit : Frame → PidCurve → List ℕ
limit f entry =
    codes "<path class=\"over\" d=\""
    ++ (numbered (over f entry.limit entry.curve.span) 0 entry.curve.slots ++ limit_line f.unit entry.limit (height_of (top_value f) entry.limit))

abbrev pub limit_if : Frame → PidCurve → List ℕ
limit_if f entry = if nat_lt 0 entry.limit then limit f entry else []

-- a curve; nothing if no value has come
unfoldable pub values_text : Frame → LabelsState → ℕ → PidCurve → List ℕ
values_text f labels class entry = band f class entry ++ (line f labels class entry ++ limit_if f entry)

abbrev pub curve : Frame → LabelsState → List PidCurve → PidCurve → List ℕ
curve f labels order entry = if length entry.curve.slots == 0 then [] else values_text f labels (class_of order entry.pid) entry

unfoldable pub picture_head : List ℕ → List ℕ
picture_head name = codes "<svg class=\"chart\" viewBox=\"0 -80 9900 2560\" role=\"img\" aria-label=\"" ++ (name ++ codes "\">\n")

unfoldable pub picture : List ℕ → Frame → LabelsState → List PidCurve → List PidCurve → List ℕ
picture name f labels order curves = picture_head name ++ (scales_text f ++ (flat_map (curve f labels order) curves ++ codes "</svg>\n"))

abbrev pub chart : List ℕ → Frame → LabelsState → List PidCurve → List PidCurve → List ℕ
chart name f labels order curves = keys f.unit labels order curves ++ (picture name f labels order curves ++ values.table (codes "PID") f curves)
