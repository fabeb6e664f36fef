use Rattle.std.proofs.Common.{◌≡◌, ◌-◌, length, take, drop}
use Rattle.clock27.specs.Departure.{last_left}
use Rattle.tstd_rows.specs.RoomTimes.{capped, rooms_waiting}
use Rattle.tstd_rows.proofs.eb_rooms.EbRooms.take_waiting.Given as goal

abbrev pub invariant-loop-unit : goal.invariant-loop-unit
invariant-loop-unit l = record {
  rest : l.rest - length (rooms_waiting l.self.waiting.items) ≡ l.count - length (rooms_waiting l.fn.self.waiting.items);
  rooms : drop l.rest (rooms_waiting l.self.waiting.items) ≡ drop l.count (rooms_waiting l.fn.self.waiting.items);
  last : capped (last_left l.leak l.self.last (take l.rest (rooms_waiting l.self.waiting.items)))
      ≡ capped (last_left l.leak l.fn.self.last (take l.count (rooms_waiting l.fn.self.waiting.items)));
  free : l.self.free ≡ l.fn.self.free;
  current : l.self.current ≡ l.fn.self.current;
}

abbrev pub decreases-loop-unit : goal.decreases-loop-unit
decreases-loop-unit l = length l.self.waiting.items
