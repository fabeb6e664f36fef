use Rattle.std.proofs.Common.{◌+◌, ◌-◌, refl}
use Rattle.tstd_rows.proofs.RoomRows.{last_after, rooms_after}
use Rattle.tstd_rows.proofs.eb_rooms.EbRooms.take.Goals as goal

pub returns-clause-rooms : goal.returns-clause-rooms
returns-clause-rooms c =
    let free = c.take_free-rest.ensures in
    let waiting = c.take_waiting-rest.ensures in
    let after = c.take_waiting-rest.new.self in
    rooms_after c.args.self.now c.take_free-rest.new.self after after.free after.waiting.items
    (record { until = after.current.until; bytes = after.current.bytes + (c.args.count - c.take_waiting-rest.result) }) c.args.count c.take_free-rest.result
    c.take_waiting-rest.result
    free.rest free.free free.waiting free.current waiting.rest waiting.rooms waiting.free waiting.current refl refl refl refl

pub returns-clause-last : goal.returns-clause-last
returns-clause-last c =
    let free = c.take_free-rest.ensures in
    let waiting = c.take_waiting-rest.ensures in
    last_after c.args.self.now c.take_free-rest.new.self c.take_waiting-rest.new.self c.args.leak c.args.count c.take_free-rest.result
    c.take_waiting-rest.result c.gone-self.result
    c.take_waiting-rest.new.self.current.until free.rest free.waiting free.current free.last waiting.rest waiting.current waiting.last refl c.gone-self.ensures
