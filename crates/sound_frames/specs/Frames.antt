-- The frames of a stream's units, if each unit is whole frames: how many a unit has at most, the longest time of a frame, and the most bytes
-- of the last frames of a unit, without its first frame.
use Rattle.std.specs.Prelude.{ℕ, zero, suc, ◌+◌, ◌-◌, ◌^◌, ◌==◌, ◌||◌, min, max, nat_lt, if◌then◌else◌, Option, Some, None, List, [], ◌∷◌, length, drop}
use Rattle.std.specs.Prelude.{map, replicate, slice_index}
use Rattle.std.specs.List.{range_with_len}
use Rattle.sound_frames.specs.declared.frame.FrameHeader.{FrameHeader}
use Rattle.sound_frames.specs.declared.frame_headers.FrameKind.{FrameKind}
use Rattle.sound_frames.specs.declared.frames.UnitFrames.{UnitFrames}
use Rattle.sound_frames.specs.FrameHeaders.{frame_header}

-- `left` has sums of the bytes of 1, 2, .. 63 frames
abbrev pub no_frames : UnitFrames
no_frames = record { count = 0; time = 0; left = replicate 63 0 }

abbrev pub sum_of : List ℕ → ℕ → ℕ
sum_of left frames = if frames == 0 then 0 else slice_index left (frames - 1)

-- one more frame comes: its bytes and those of the frames before it, as a number of 32 bits
abbrev pub sum_with : List ℕ → ℕ → ℕ → ℕ
sum_with left size before = min (sum_of left before + size) (2 ^ 32 - 1)

abbrev pub left_with : List ℕ → ℕ → List ℕ
left_with left size = map (sum_with left size) (range_with_len 0 63)

-- the first frame of the unit is in no sum: it leaves a buffer when the unit is due, before all others
unfoldable pub left_after : UnitFrames → ℕ → List ℕ
left_after c size = if c.count == 0 then c.left else left_with c.left size

unfoldable pub with_frame : UnitFrames → FrameHeader → UnitFrames
with_frame c h = record { count = c.count + 1; time = max c.time h.time; left = left_after c h.size }

-- the frame at the front, if it is whole, and the bytes after it
unfoldable pub next_frame : FrameKind → List ℕ → Option (FrameHeader × List ℕ)
next_frame kind bytes = elim (frame_header kind bytes) [
  | None ↦ None
  | Some h ↦ if h.size == 0 || nat_lt (length bytes) h.size then None else Some (h, drop h.size bytes)
]

-- frame after frame, at most n of them, up to the end
unfoldable pub walked : FrameKind → ℕ → UnitFrames → List ℕ → Option UnitFrames
walked kind zero c bytes = if length bytes == 0 then Some c else None
walked kind (suc n) c bytes =
    if length bytes == 0 then Some c
    else elim (next_frame kind bytes) [ None ↦ None | Some next ↦ walked kind n (with_frame c next.0) next.1 ]

-- the frames of a unit: a frame has a byte or more
abbrev pub unit_frames : FrameKind → List ℕ → Option UnitFrames
unit_frames kind unit = walked kind (length unit) no_frames unit

-- the frames of two units together
abbrev pub greater_left : List ℕ → List ℕ → List ℕ
greater_left l m = map (λ i. max (slice_index l i) (slice_index m i)) (range_with_len 0 63)

abbrev pub joined_frames : UnitFrames → UnitFrames → UnitFrames
joined_frames c d = record { count = max c.count d.count; time = max c.time d.time; left = greater_left c.left d.left }

-- the frames of all units, and of units before them
unfoldable pub all_frames : FrameKind → UnitFrames → List (List ℕ) → Option UnitFrames
all_frames kind c [] = Some c
all_frames kind c (unit ∷ units) = elim (unit_frames kind unit) [ None ↦ None | Some d ↦ all_frames kind (joined_frames c d) units ]
