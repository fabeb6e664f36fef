-- The frames of a unit of sound, found as its bytes arrive, piece by piece: a frame begins where the frame before it ends, and the header of each frame says
-- how many bytes it has and how long it sounds. The unit's stamp is the time of its first frame; each later frame is due when the frames before it have sounded
-- (ISO/IEC 13818-1, 2.4.2.3 and 2.7.5).
use Rattle.std.specs.Prelude.{ℕ, zero, suc, ◌+◌, ◌-◌, ◌^◌, ◌==◌, min, nat_lt, Bool, true, false, if◌then◌else◌, Option, Some, None, List, [], ◌∷◌, ◌++◌, length}
use Rattle.std.specs.Prelude.{take, drop}
use Rattle.sound_frames.specs.declared.frame.FrameHeader.{FrameHeader}
use Rattle.sound_frames.specs.declared.frame_headers.FrameKind.{FrameKind}
use Rattle.sound_frames.specs.declared.frame_walk.FramePart.{FramePart}
use Rattle.sound_frames.specs.FrameHeaders.{frame_header}

-- the state of a walk: the bytes of the current frame's header so far; the number of bytes of the frame that follow; the time of the frame, and how long after
-- the first frame of the unit it is due, in units of 90 kHz; and whether the bytes are no frame's
pub record WalkView : Type 0 where
  pub kind : FrameKind
  pub header : List ℕ
  pub left : ℕ
  pub time : ℕ
  pub ahead : ℕ
  pub lost : Bool

-- the bytes that any header needs: no frame is shorter
abbrev pub header_bytes : ℕ
header_bytes = 7

-- before the first unit
abbrev pub no_walk : FrameKind → WalkView
no_walk kind = record { kind = kind; header = []; left = 0; time = 0; ahead = 0; lost = true }

-- a unit begins, and with it a frame
abbrev pub restarted : WalkView → WalkView
restarted w = record w { header = []; left = 0; ahead = 0; lost = false }

-- the bytes that follow are no frames
abbrev pub strayed : WalkView → WalkView
strayed w = record w { lost = true }

-- another frame of the unit begins, due when the frame before it has sounded; numbers stop at 2^64 - 1
abbrev pub begun : WalkView → WalkView
begun w = record w { header = []; left = 0; ahead = min (w.ahead + w.time) (2 ^ 64 - 1) }

-- the bytes that its header still lacks
abbrev pub missing : WalkView → ℕ
missing w = header_bytes - length w.header

-- the size and the time in its header; if the time is 0, the time of the frame before it
unfoldable pub by_header : WalkView → Option FrameHeader → WalkView
by_header w None = strayed w
by_header w (Some h) =
    if nat_lt h.size header_bytes then strayed w
    else record w { left = h.size - header_bytes; time = if h.time == 0 then w.time else h.time }

-- once the header is whole
unfoldable pub header_read : WalkView → WalkView
header_read w = if length w.header == header_bytes then by_header w (frame_header w.kind w.header) else w

-- bytes of the frame at the front: first the bytes of the header
abbrev pub with_bytes : WalkView → List ℕ → WalkView
with_bytes w bytes = record w { header = w.header ++ take (missing w) bytes }

unfoldable pub headed : WalkView → List ℕ → WalkView
headed w bytes = if length w.header == header_bytes then w else header_read (with_bytes w bytes)

-- and then the bytes after the header
abbrev pub shortened : WalkView → ℕ → WalkView
shortened w count = record w { left = w.left - count }

unfoldable pub passed_by : WalkView → ℕ → WalkView
passed_by w count = if w.lost then w else shortened w count

unfoldable pub passed : WalkView → List ℕ → WalkView
passed w bytes = if w.lost then w else passed_by (headed w bytes) (length bytes - missing w)

-- how many of these bytes are the frame's: all of them if they are no frame
unfoldable pub count_by : WalkView → ℕ → ℕ → ℕ
count_by w first count = if w.lost then count else first + min w.left (count - first)

unfoldable pub count_passed : WalkView → List ℕ → ℕ
count_passed w bytes = if w.lost then length bytes else count_by (headed w bytes) (min (missing w) (length bytes)) (length bytes)

-- the frames that begin in these bytes, from a place where a frame ends, at most n frames
abbrev pub part_at : WalkView → ℕ → List ℕ → FramePart
part_at w place bytes = record { place = place; size = count_passed w bytes; ahead = w.ahead }

unfoldable pub parts_from : ℕ → WalkView → ℕ → List ℕ → List FramePart
parts_from zero w place bytes = []
parts_from (suc n) w place bytes =
    if length bytes == 0 then []
    else part_at (begun w) place bytes
    ∷ parts_from n (passed (begun w) bytes) (place + count_passed (begun w) bytes) (drop (count_passed (begun w) bytes) bytes)

unfoldable pub walked_from : ℕ → WalkView → List ℕ → WalkView
walked_from zero w bytes = w
walked_from (suc n) w bytes =
    if length bytes == 0 then w
    else walked_from n (passed (begun w) bytes) (drop (count_passed (begun w) bytes) bytes)

-- after the bytes of the current frame: each frame has a byte or more
abbrev pub frames_in : WalkView → List ℕ → List FramePart
frames_in w bytes = parts_from (length bytes) (passed w bytes) (count_passed w bytes) (drop (count_passed w bytes) bytes)

abbrev pub walk_after : WalkView → List ℕ → WalkView
walk_after w bytes = walked_from (length bytes) (passed w bytes) (drop (count_passed w bytes) bytes)
