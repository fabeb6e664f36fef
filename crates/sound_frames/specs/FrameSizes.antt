-- The sums of the bytes of a unit's frames, by the sizes of the frames.
use Rattle.std.specs.Prelude.{◌≡◌, ℕ, zero, suc, ◌+◌, ◌-◌, ◌^◌, ◌<◌, ◌==◌, min, max, if◌then◌else◌, Option, Some, None, option_map, List, [], ◌∷◌}
use Rattle.std.specs.Prelude.{length, drop, slice_index}
use Rattle.std.specs.List.{sum}
use Rattle.sound_frames.specs.declared.frame_headers.FrameKind.{FrameKind}
use Rattle.sound_frames.specs.declared.frames.UnitFrames.{UnitFrames}
use Rattle.sound_frames.specs.Frames.{next_frame, unit_frames}

-- the sizes of frame after frame, at most n of them, up to the end
unfoldable pub sizes_from : FrameKind → ℕ → List ℕ → Option (List ℕ)
sizes_from kind zero bytes = if length bytes == 0 then Some [] else None
sizes_from kind (suc n) bytes =
    if length bytes == 0 then Some []
    else elim (next_frame kind bytes) [ None ↦ None | Some next ↦ option_map (λ sizes. next.0.size ∷ sizes) (sizes_from kind n next.1) ]

-- the sizes of the frames of a unit, if the unit is whole frames
abbrev pub frame_sizes : FrameKind → List ℕ → Option (List ℕ)
frame_sizes kind unit = sizes_from kind (length unit) unit

-- the bytes of the last j frames, or of all but the first, as a number of 32 bits
abbrev pub last_bytes : List ℕ → ℕ → ℕ
last_bytes sizes j = min (sum (drop (max 1 (length sizes - j)) sizes)) (2 ^ 32 - 1)

-- the counts of a unit with frames of these sizes
pub record AreCounts (sizes : List ℕ) (c : UnitFrames) : Type 0 where
  pub count : c.count ≡ length sizes
  pub left : (i : ℕ) → i < 63 → slice_index c.left i ≡ last_bytes sizes (i + 1)

-- a unit that is whole frames has the counts of its frames
abbrev pub SumsLaw : Type 0
SumsLaw = (kind : FrameKind) (unit : List ℕ) (c : UnitFrames) → unit_frames kind unit ≡ Some c →
    (sizes : List ℕ) × (frame_sizes kind unit ≡ Some sizes) × AreCounts sizes c
