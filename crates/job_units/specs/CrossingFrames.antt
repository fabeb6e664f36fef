-- Frames of sound that begin in one unit of a stream and end in the next, as the first two units show.
use Rattle.std.specs.Prelude.{ℕ, ◌-◌, ◌*◌, min, ◌==◌, ◌&&◌, ◌||◌, Bool, false, nat_lt, List, [], ◌∷◌, length, take, drop, slice_get, Option, Some, None}
use Rattle.pes_packet.specs.AccessUnits.{AccessUnit}
use Rattle.sound_frames.specs.FrameWalks.{WalkView, frames_in, no_walk, restarted, walk_after}
use Rattle.sound_frames.specs.declared.frame_headers.FrameKind.{FrameKind}
use Rattle.sound_frames.specs.declared.frame_walk.FramePart.{FramePart}

-- no frame has more bytes: LOAS counts those after the first three in 13 bits (ISO/IEC 14496-3, 1.7.2), ADTS counts all in 13 bits (ISO/IEC 13818-7, 6.2)
abbrev pub most_frame : ℕ
most_frame = 8_194

-- the walk over a frame that begins at the front of these bytes
abbrev pub frame_begun : FrameKind → WalkView
frame_begun kind = restarted (no_walk kind)

-- two frames or more begin in a unit, the first of them after its front
unfoldable pub begin_later : List FramePart → Bool
begin_later parts = elim (slice_get parts 0) [ None ↦ false | Some part ↦ nat_lt 0 part.place && nat_lt 1 (length parts) ]

-- the last bytes of a unit are the beginning of a frame that ends in the next unit, and another frame ends there too, before a third
unfoldable pub is_cut : FrameKind → List ℕ → List ℕ → Bool
is_cut kind bytes next =
    length (frames_in (frame_begun kind) bytes) == 0 && begin_later (frames_in (walk_after (frame_begun kind) bytes) next)

-- so are these bytes, or some of the last of them
unfoldable pub has_cut : FrameKind → List ℕ → List ℕ → Bool
has_cut kind [] next = false
has_cut kind (b ∷ bytes) next = is_cut kind (b ∷ bytes) next || has_cut kind bytes next

-- a frame begins in a unit and ends in the next one
unfoldable pub crosses : FrameKind → List ℕ → List ℕ → Bool
crosses kind one next = has_cut kind (drop (length one - most_frame) one) (take (min (length next) (2 * most_frame)) next)

unfoldable pub crosses_into : FrameKind → AccessUnit → Option AccessUnit → Bool
crosses_into kind one None = false
crosses_into kind one (Some next) = crosses kind one.bytes next.bytes

-- in the first of these units and in the second
unfoldable pub do_cross : FrameKind → List AccessUnit → Bool
do_cross kind us = elim (slice_get us 0) [ None ↦ false | Some one ↦ crosses_into kind one (slice_get us 1) ]
