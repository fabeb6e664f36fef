-- How full a buffer was over time, as a strip.
use Rattle.std.specs.Prelude.{ℕ, ◌+◌, ◌-◌, ◌*◌, ◌/◌, ◌^◌, ◌==◌, min, max, nat_lt, if◌then◌else◌, List, [], ◌++◌, codes, decimal, flat_map, Option, Some, None}
use Rattle.page_curves.specs.declared.bounds.Bounds.{Bounds}
use Rattle.page_curves.specs.declared.frame.Frame.{Frame}
use Rattle.page_curves.specs.declared.pid_curves.PidCurve.{PidCurve}
use Rattle.page_charts.specs.declared.strip.TheConstants.{LEVELS, STRIP}
use Rattle.page_curves.specs.Frames.{window_count}
use Rattle.page_curves.specs.Paths.{numbered}
use Rattle.page_curves.specs.Slots.{CurveView, slot_at}

-- how full a buffer is by the most bytes in it: 0 if nothing is known, 1 to 5 by fifths of its size, 6 over it
unfoldable pub fullness : ℕ → Option Bounds → ℕ
fullness size None = 0
fullness size (Some b) = if nat_lt size b.greatest then 6 else 1 + min b.greatest (2 ^ 50) * 5 / (min size (2 ^ 50) + 1)

-- the fullness of the slot before a slot, and of the slot after it; none before the first slot and past the last one
abbrev pub fullness_before : PidCurve → ℕ → ℕ
fullness_before entry slot = if slot == 0 then 0 else fullness entry.limit (slot_at entry.curve.slots (slot - 1))

abbrev pub fullness_after : PidCurve → ℕ → ℕ
fullness_after entry slot = fullness entry.limit (slot_at entry.curve.slots (slot + 1))

-- where a slot begins on a strip, which is as long as all windows
abbrev pub place_of : Frame → CurveView → ℕ → ℕ
place_of f curve slot = STRIP * min (min (curve.span * slot) (2 ^ 64 - 1)) (window_count f) / max (window_count f) 1

-- slots of one fullness in a row are one line: the first one begins it, and the last one ends it
abbrev pub begin_part : Frame → ℕ → PidCurve → ℕ → List ℕ
begin_part f level entry slot = if fullness_before entry slot == level then [] else codes "M" ++ (decimal (place_of f entry.curve slot) ++ codes " 5")

abbrev pub end_part : Frame → ℕ → PidCurve → ℕ → List ℕ
end_part f level entry slot = if fullness_after entry slot == level then [] else codes "H" ++ decimal (place_of f entry.curve (slot + 1))

abbrev pub part : Frame → ℕ → PidCurve → ℕ → Option Bounds → List ℕ
part f level entry slot b = if fullness entry.limit b == level then begin_part f level entry slot ++ end_part f level entry slot else []

unfoldable pub level_path : Frame → PidCurve → ℕ → List ℕ
level_path f entry level =
    codes "<path class=\"f" ++ (decimal level ++ (codes "\" d=\"" ++ (numbered (part f level entry) 0 entry.curve.slots ++ codes "\"/>")))

unfoldable pub strip : Frame → PidCurve → List ℕ
strip f entry = codes "<td><svg class=\"strip\" viewBox=\"0 0 4000 10\" preserveAspectRatio=\"none\" role=\"img\" aria-label=\"fullness over time\">"
    ++ (flat_map (level_path f entry) LEVELS ++ codes "</svg>\n")
