use Rattle.std.proofs.Common.{◌≡◌, ℕ, ◌≤◌, length}
use Rattle.tstd_rows.specs.RoomTimes.{raised}
use Rattle.tstd_rows.specs.Rooms.{rooms_now}
use Rattle.tstd_rows.proofs.eb_rooms.EbRooms.settle.Given as goal

abbrev pub invariant-loop-unit : goal.invariant-loop-unit
invariant-loop-unit l = record {
  rooms : (from : ℕ) → l.now ≤ from → raised from (rooms_now l.self) ≡ raised from (rooms_now l.fn.self);
  many : length (rooms_now l.self) ≡ length (rooms_now l.fn.self);
  last : l.self.last ≡ l.fn.self.last;
  current : l.self.current ≡ l.fn.self.current;
}

abbrev pub decreases-loop-unit : goal.decreases-loop-unit
decreases-loop-unit l = length l.self.waiting.items
