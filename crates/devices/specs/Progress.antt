-- The progress of a reader on a terminal: CR, a text, and the control sequence that erases the rest of the line (ECMA-48, 8.3.41).
use Rattle.std.specs.Prelude.{ℕ, ◌+◌, ◌-◌, ◌*◌, ◌/◌, ◌^◌, ◌==◌, nat_le, max, min, Bool, if◌then◌else◌, List, [], ◌∷◌, ◌++◌, Option, Some, None, codes, decimal}
use Rattle.devices.specs.declared.meter.Meter.{Meter}

-- 1. The texts

-- bytes a second, over a time in milliseconds
abbrev pub speed : ℕ → ℕ → ℕ
speed taken ms = taken * 1000 / max ms 1

-- the seconds for the rest at this speed, if the size is known
unfoldable pub seconds_left : Option ℕ → ℕ → ℕ → Option ℕ
seconds_left None taken speed = None
seconds_left (Some size) taken speed = if speed == 0 then None else Some ((size - taken) / speed)

-- ESC [ K: the rest of the line is erased
abbrev pub erase_text : List ℕ
erase_text = 27 ∷ codes "[K"

abbrev pub number_text : ℕ → List ℕ
number_text n = 32 ∷ decimal n

-- the size of the whole
unfoldable pub size_text : Option ℕ → List ℕ
size_text None = []
size_text (Some size) = codes " of" ++ number_text size

unfoldable pub left_text : Option ℕ → List ℕ
left_text None = []
left_text (Some seconds) = codes "," ++ (number_text seconds ++ codes " s left")

-- the bytes that were read, and the size
abbrev pub read_text : ℕ → Option ℕ → List ℕ
read_text taken size = (13 ∷ codes "read") ++ (number_text taken ++ (size_text size ++ codes " bytes"))

-- and the speed, and the time left
unfoldable pub progress_text : ℕ → Option ℕ → ℕ → List ℕ
progress_text taken size ms =
    read_text taken size
    ++ (codes "," ++ (number_text (speed taken ms) ++ (codes " a second" ++ (left_text (seconds_left size taken (speed taken ms)) ++ erase_text))))

-- the input is at its end, or a read failed
unfoldable pub end_text : ℕ → List ℕ
end_text taken = read_text taken None ++ erase_text ++ codes "\n"

-- 2. After a read of n bytes, ms milliseconds after the beginning

-- the bytes so far are shown once a second
abbrev pub is_due : Meter → ℕ → Bool
is_due m ms = nat_le 1000 (ms - m.shown_at)

abbrev pub taken_after : Meter → ℕ → ℕ
taken_after m n = min (m.taken + n) (2 ^ 64 - 1)

abbrev pub counted : Meter → ℕ → ℕ → Meter
counted m n ms = record { taken = taken_after m n; size = m.size; shown_at = if is_due m ms then ms else m.shown_at }

-- a read of no bytes is the last
unfoldable pub meter_after : Meter → ℕ → ℕ → Option Meter
meter_after m n ms = if n == 0 then None else Some (counted m n ms)

unfoldable pub text_after : Meter → ℕ → ℕ → List ℕ
text_after m n ms =
    if n == 0 then end_text m.taken
    else (if is_due m ms then progress_text (taken_after m n) m.size ms else [])
