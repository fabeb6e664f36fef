-- The frame of a picture: its scales, and the drawn bounds of a slot.
use Rattle.std.specs.Prelude.{ℕ, ◌+◌, ◌-◌, ◌*◌, ◌/◌, ◌^◌, min, max, nat_lt, if◌then◌else◌, List, [], ◌++◌, codes, decimal, flat_map, Option, Some, None}
use Rattle.page_curves.specs.declared.bounds.Bounds.{Bounds}
use Rattle.page_curves.specs.declared.frame.ChartUnit.{ChartUnit}
use Rattle.page_curves.specs.declared.frame.ChartUnit.TheVariants.{BitRate, Bytes, Time, Nanoseconds, Offset}
use Rattle.page_curves.specs.declared.frame.Frame.{Frame}
use Rattle.page_curves.specs.declared.frame_text.TheConstants.{FIFTHS, QUARTERS, STEP_COUNTS}
use Rattle.page_curves.specs.declared.scale.TheConstants.{GREATEST_VALUE, LEFT, WIDTH}
use Rattle.page_curves.specs.Numbers.{grouped, tenths}
use Rattle.page_curves.specs.Scale.{above_zero, below_zero, height_of, offset_height, quarter_of, scale_for, slots_in}
use Rattle.page_curves.specs.declared.time_scale.TimeUnit.{TimeUnit}
use Rattle.page_curves.specs.TimeScale.{step_for, unit_millis, unit_of}
use Rattle.page_curves.specs.TimeScale as time

-- the least top of a scale: ten of the unit of its written values
unfoldable pub least_top : ChartUnit → ℕ
least_top BitRate = 10000
least_top Bytes = 10
least_top Time = 10000
least_top Nanoseconds = 10
least_top Offset = 10

abbrev pub frame : ChartUnit → ℕ → ℕ → ℕ → Frame
frame unit windows millis greatest = record { unit = unit; windows = windows; millis = millis; top = scale_for (max greatest (least_top unit)) }

-- its windows, 2^38 at most, and the value at its top, 10^15 at most
abbrev pub window_count : Frame → ℕ
window_count f = min f.windows (2 ^ 38)

abbrev pub top_value : Frame → ℕ
top_value f = min f.top GREATEST_VALUE

-- how high a value lies
unfoldable pub height_by : ChartUnit → ℕ → ℕ → ℕ
height_by BitRate top value = height_of top value
height_by Bytes top value = height_of top value
height_by Time top value = height_of top value
height_by Nanoseconds top value = height_of top value
height_by Offset top value = offset_height top value

abbrev pub height : Frame → ℕ → ℕ
height f value = height_by f.unit (top_value f) value

-- 1. The drawn bounds of a slot

-- the bounds of a slot of this many windows, if a window without a value has the value 0
unfoldable pub with_absent : Option Bounds → ℕ → Bounds
with_absent None windows = record { count = 0; least = 0; greatest = 0 }
with_absent (Some b) windows = if nat_lt b.count windows then record b { least = 0 } else b

-- the windows of a slot, up to the last one
abbrev pub windows_in : Frame → ℕ → ℕ → ℕ
windows_in f span slot = min (window_count f - min (span * slot) (2 ^ 64 - 1)) span

-- the drawn bounds of a slot: a PID without a packet has a bit rate of 0; a window without any other value draws nothing
unfoldable pub shown_of : ChartUnit → ℕ → Option Bounds → Option Bounds
shown_of BitRate windows b = Some (with_absent b windows)
shown_of Bytes windows b = b
shown_of Time windows b = b
shown_of Nanoseconds windows b = b
shown_of Offset windows b = b

abbrev pub shown : Frame → ℕ → ℕ → Option Bounds → Option Bounds
shown f span slot b = shown_of f.unit (windows_in f span slot) b

abbrev pub slots_of : Frame → ℕ → ℕ
slots_of f span = slots_in (window_count f) span

-- 2. Its scales

-- a difference, with its sign if it is below 0
unfoldable pub offset_text : ℕ → List ℕ
offset_text value = if nat_lt 0 (below_zero value) then codes "&#8722;" ++ grouped (below_zero value) else grouped (above_zero value)

-- bit rates in kbit/s, bytes, times in ms or in ns, and differences in ns
unfoldable pub value_text : ChartUnit → ℕ → List ℕ
value_text BitRate value = tenths value 1000
value_text Bytes value = grouped value
value_text Time value = tenths value 1000
value_text Nanoseconds value = grouped value
value_text Offset value = offset_text value

unfoldable pub unit_name : ChartUnit → List ℕ
unit_name BitRate = codes "kbit/s"
unit_name Bytes = codes "bytes"
unit_name Time = codes "ms"
unit_name Nanoseconds = codes "ns"
unit_name Offset = codes "ns"

unfoldable pub level_line : ℕ → List ℕ
level_line y =
    codes "<path class=\"grid\" d=\"M900 " ++ (decimal y ++ (codes "H9500\"/><text class=\"end\" x=\"840\" y=\"" ++ (decimal y ++ codes "\" dy=\".35em\">")))

unfoldable pub level_text : ChartUnit → ℕ → ℕ → List ℕ
level_text unit value y = level_line y ++ (value_text unit value ++ codes "</text>\n")

unfoldable pub moment_line : ℕ → List ℕ
moment_line x = codes "<path class=\"grid\" d=\"M" ++ (decimal x ++ (codes " 200V2240\"/><text class=\"mid\" x=\"" ++ (decimal x ++ codes "\" y=\"2400\">")))

unfoldable pub moment_text : ℕ → ℕ → TimeUnit → List ℕ
moment_text x moment unit = moment_line x ++ (decimal (moment / unit_millis unit) ++ (codes " " ++ (time.unit_name unit ++ codes "</text>\n")))

unfoldable pub name_above : List ℕ → List ℕ
name_above name = codes "<text class=\"end\" x=\"840\" y=\"30\">" ++ (name ++ codes "</text>\n")

abbrev pub unit_text : ChartUnit → List ℕ
unit_text unit = name_above (unit_name unit)

-- all windows, in ms
abbrev pub length_of : Frame → ℕ
length_of f = window_count f * min f.millis (2 ^ 22)

-- a level at this number of fifths of the scale of values
abbrev pub fifth_at : Frame → ℕ → List ℕ
fifth_at f fifth = level_text f.unit (top_value f * fifth / 5) (height_of (top_value f) (top_value f * fifth / 5))

abbrev pub fifth_text : Frame → ℕ → List ℕ
fifth_text f fifth = fifth_at f (min fifth 5)

-- a level at this number of quarters of a scale of differences
abbrev pub quarter_text : Frame → ℕ → List ℕ
quarter_text f quarter = level_text f.unit (quarter_of (top_value f) quarter) (offset_height (top_value f) (quarter_of (top_value f) quarter))

unfoldable pub levels_by : Frame → ChartUnit → List ℕ
levels_by f BitRate = flat_map (fifth_text f) FIFTHS
levels_by f Bytes = flat_map (fifth_text f) FIFTHS
levels_by f Time = flat_map (fifth_text f) FIFTHS
levels_by f Nanoseconds = flat_map (fifth_text f) FIFTHS
levels_by f Offset = flat_map (quarter_text f) QUARTERS

-- the mark of a moment on the scale of times, if it lies on the scale
abbrev pub moment_at : Frame → ℕ → List ℕ
moment_at f moment = if nat_lt (length_of f) moment then []
    else moment_text (LEFT + WIDTH * moment / max (length_of f) 1) moment (unit_of (step_for (length_of f)))

abbrev pub step_text : Frame → ℕ → List ℕ
step_text f count = moment_at f (step_for (length_of f) * min count 6)

unfoldable pub scales_text : Frame → List ℕ
scales_text f = levels_by f f.unit ++ (flat_map (step_text f) STEP_COUNTS ++ unit_text f.unit)
