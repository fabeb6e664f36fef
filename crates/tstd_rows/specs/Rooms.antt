-- The kept times at which the elementary stream buffer EB of video has room (`RoomTimes`), after all parts so far.
use Rattle.std.specs.Prelude.{◌≡◌, ℕ, max, List, length, drop}
use Rattle.unit_timing.specs.LeakMethod.{rooms_of}
use Rattle.tstd_rows.specs.RoomTimes.{capped, raised, rooms_in}
use Rattle.tstd_rows.specs.History.{Part, payload_left, until_of}
use Rattle.tstd_rows.specs.VideoViewed.{last_leaked, last_transferred, removed_of}
use Rattle.tstd_rows.specs.declared.eb_rooms.EbRooms.{EbRooms}

abbrev pub rooms_now : EbRooms → List ℕ
rooms_now r = rooms_in r.free r.waiting.items r.current

-- the times of the next bytes after these parts, at an EB of `size` bytes
abbrev pub rooms_next : ℕ → ℕ → List Part → List ℕ
rooms_next rate size parts = drop (length (payload_left rate parts)) (rooms_of size (removed_of parts))

-- the kept times determine when each byte goes: the last byte so far, and all later bytes. `last` is when the last byte would have gone if it were always in
-- MB in time
pub record AreRooms (rooms : EbRooms) (rate leak size : ℕ) (parts : List Part) : Type 0 where
  pub last : capped (max (last_leaked rate leak parts) rooms.last) ≡ capped (last_transferred rate leak size parts)
  pub next : raised (last_transferred rate leak size parts) (rooms_now rooms) ≡ raised (last_transferred rate leak size parts) (rooms_next rate size parts)
  pub many : length (rooms_now rooms) ≡ size
  pub until : rooms.current.until ≡ until_of parts
