-- The numbers of curves as a table.
use Rattle.std.specs.Prelude.{ℕ, ◌-◌, ◌*◌, ◌/◌, ◌^◌, ◌==◌, ◌&&◌, min, nat_lt, Bool, true, false, if◌then◌else◌, List, [], ◌++◌, codes, decimal, flat_map}
use Rattle.std.specs.Prelude.{length, Option, Some, None}
use Rattle.page_curves.specs.declared.bounds.Bounds.{Bounds}
use Rattle.page_curves.specs.declared.frame.ChartUnit.{ChartUnit}
use Rattle.page_curves.specs.declared.frame.ChartUnit.TheVariants.{BitRate, Bytes, Time, Nanoseconds, Offset}
use Rattle.page_curves.specs.declared.frame.Frame.{Frame}
use Rattle.page_curves.specs.declared.pid_curves.PidCurve.{PidCurve}
use Rattle.page_curves.specs.Numbers.{tenths}
use Rattle.page_curves.specs.Frames.{shown, slots_of, unit_name, value_text}
use Rattle.page_curves.specs.Paths.{numbered}
use Rattle.page_curves.specs.Slots.{CurveView, slot_at}

-- when a slot begins, in ms; numbers stop at 2^64 - 1
abbrev pub begin_of : Frame → ℕ → ℕ → ℕ
begin_of f span slot = min (min (span * slot) (2 ^ 64 - 1) * f.millis) (2 ^ 64 - 1)

-- the least difference of two values that are written differently: tenths of kbit/s and of ms, bytes, and ns
unfoldable pub step_of : ChartUnit → ℕ
step_of BitRate = 100
step_of Bytes = 1
step_of Time = 100
step_of Nanoseconds = 1
step_of Offset = 1

-- whether two slots have the same values, as they are written, or both have none
abbrev pub is_alike : ℕ → Bounds → Bounds → Bool
is_alike step a b = (a.least / step == b.least / step) && (a.greatest / step == b.greatest / step)

unfoldable pub is_same : ℕ → Option Bounds → Option Bounds → Bool
is_same step None None = true
is_same step None (Some b) = false
is_same step (Some a) None = false
is_same step (Some a) (Some b) = is_alike step a b

-- the drawn bounds of the slot before a slot; none before the first slot
abbrev pub shown_before : Frame → CurveView → ℕ → Option Bounds
shown_before f curve slot = if slot == 0 then None else shown f curve.span (slot - 1) (slot_at curve.slots (slot - 1))

-- the row of values from a moment on
unfoldable pub values : ChartUnit → Bounds → List ℕ
values unit b = codes "<td>" ++ (value_text unit b.least ++ (codes "<td>" ++ (value_text unit b.greatest ++ codes "\n")))

unfoldable pub values_or : ChartUnit → Option Bounds → List ℕ
values_or unit None = codes "<td>none<td>none\n"
values_or unit (Some b) = values unit b

unfoldable pub row_of : Frame → ℕ → ℕ → Option Bounds → List ℕ
row_of f pid begin b = codes "<tr><td>" ++ (decimal pid ++ (codes "<td>" ++ (tenths begin 1000 ++ values_or f.unit b)))

-- the row of a slot, unless it has the same values as the slot before
abbrev pub row : Frame → PidCurve → ℕ → Option Bounds → List ℕ
row f entry slot b = if is_same (step_of f.unit) (shown_before f entry.curve slot) (shown f entry.curve.span slot b) then []
    else row_of f entry.pid (begin_of f entry.curve.span slot) (shown f entry.curve.span slot b)

-- the row after the last slot, if further windows follow
abbrev pub last_row : Frame → PidCurve → List ℕ
last_row f entry = if nat_lt (length entry.curve.slots) (slots_of f entry.curve.span) then row f entry (length entry.curve.slots) None else []

abbrev pub rows : Frame → PidCurve → List ℕ
rows f entry = numbered (row f entry) 0 entry.curve.slots ++ last_row f entry

unfoldable pub head : List ℕ → List ℕ → List ℕ
head owner unit = codes
    "<details><summary>These numbers</summary><table><caption>A row is left out if its values are those of the row above.</caption><tr><th scope=col>"
    ++ (owner ++ (codes "<th scope=col>from, s<th scope=col>least, " ++ (unit ++ (codes "<th scope=col>greatest, " ++ (unit ++ codes "\n")))))

-- a table of the values of curves; `owner` heads its first column
unfoldable pub table : List ℕ → Frame → List PidCurve → List ℕ
table owner f curves = head owner (unit_name f.unit) ++ (flat_map (rows f) curves ++ codes "</table></details>\n")
