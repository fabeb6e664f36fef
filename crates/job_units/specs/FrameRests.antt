-- The time from the last frame of a unit of sound to the next unit.
use Rattle.std.specs.Prelude.{ℕ, ◌+◌, ◌-◌, ◌*◌, ◌<◌, ◌≤◌, min, List, [], ◌∷◌, Option, Some, None}
use Rattle.pes_packet.specs.AccessUnits.{AccessUnit}
use Rattle.sound_frames.specs.declared.frame_headers.FrameKind.{FrameKind}
use Rattle.sound_frames.specs.declared.frames.UnitFrames.{UnitFrames}
use Rattle.sound_frames.specs.Frames.{unit_frames}

-- the frames of a unit; 0 if it is not whole frames
unfoldable pub count_of : Option UnitFrames → ℕ
count_of None = 0
count_of (Some c) = c.count

-- when the last frame of a unit leaves its buffer, if each frame is this time after the frame before it, in units of 90 kHz
abbrev pub last_due : FrameKind → ℕ → AccessUnit → ℕ
last_due kind time u = u.dts + (count_of (unit_frames kind u.bytes) - 1) * time

-- the least time from then to the next unit, at most a second; 0 if a next unit is due no later
unfoldable pub rest_after : FrameKind → ℕ → ℕ → List AccessUnit → ℕ
rest_after kind time due [] = 90_000
rest_after kind time due (u ∷ us) = min (u.dts - due) (rest_after kind time (last_due kind time u) us)

unfoldable pub least_rest : FrameKind → ℕ → List AccessUnit → ℕ
least_rest kind time [] = 90_000
least_rest kind time (u ∷ us) = rest_after kind time (last_due kind time u) us

-- each unit is due `rest` or more after the last frame of the unit before it, the first after a frame that is due at `due`
unfoldable pub AreApart : FrameKind → ℕ → ℕ → ℕ → List AccessUnit → Type 0
AreApart kind time rest due [] = Unit {0}
AreApart kind time rest due (u ∷ us) = (due + rest ≤ u.dts) × AreApart kind time rest (last_due kind time u) us

-- so it is by the least time, if this is not 0
abbrev pub RestLaw : Type 0
RestLaw = (kind : FrameKind) (time : ℕ) (u : AccessUnit) (us : List AccessUnit) → 0 < least_rest kind time (u ∷ us) →
    AreApart kind time (least_rest kind time (u ∷ us)) (last_due kind time u) us
