use Rattle.std.proofs.Common.{◌≡◌, ◌∙◌, ℕ, ◌-◌, ◌<◌, ◌^◌, List, length, take, drop, refl, ap, arith}
use Rattle.clock27.specs.Departure.{last_left}
use Rattle.tstd.specs.declared.buffered_units.BufferedUnit.{BufferedUnit}
use Rattle.tstd_rows.specs.RoomTimes.{capped, rooms_in, rooms_waiting}
use Rattle.tstd_rows.proofs.WaitingRooms.{drop_set, end_rest, end_rooms, end_time, fewer_fits, gone_rest, gone_rooms, gone_time, less_fits, next_rest}
use Rattle.tstd_rows.proofs.WaitingRooms.{next_rooms, next_time, none_wait}
use Rattle.tstd_rows.proofs.eb_rooms.EbRooms.take_waiting.Goals as goal

pub invariant_of-self : goal.invariant_of-self
invariant_of-self c =
    let rooms = c.loop-unit.self in
    let inv = c.loop-unit.invariant in
    let unit = c.in-Some.unit.now in
    let m = c.min-bytes.result in
    let is = c.in-Some.ensures.value in
    let some : 0 < length rooms.waiting.items = omega (arith, c.in-Some.ensures.variant.0 refl, rooms.waiting.ok.0) in
    record { few = less_fits rooms.free m (2 ^ 64) unit rooms.current rooms.waiting.items some is rooms.few }

pub returns-then-unit-gt0-clause-rest : goal.returns-then-unit-gt0-clause-rest
returns-then-unit-gt0-clause-rest c =
    let rooms = c.loop-unit.self in
    let inv = c.loop-unit.invariant in
    let unit = c.in-Some.unit.now in
    let m = c.min-bytes.result in
    let is = c.in-Some.ensures.value in
    let some : 0 < length rooms.waiting.items = omega (arith, c.in-Some.ensures.variant.0 refl, rooms.waiting.ok.0) in
    gone_rest c.loop-unit.rest m _ unit rooms.waiting.items some is c.min-bytes.ensures c.if-unit-gt0.true inv.rest

pub returns-then-unit-gt0-clause-rooms : goal.returns-then-unit-gt0-clause-rooms
returns-then-unit-gt0-clause-rooms c =
    let rooms = c.loop-unit.self in
    let inv = c.loop-unit.invariant in
    let unit = c.in-Some.unit.now in
    let m = c.min-bytes.result in
    let is = c.in-Some.ensures.value in
    let some : 0 < length rooms.waiting.items = omega (arith, c.in-Some.ensures.variant.0 refl, rooms.waiting.ok.0) in
    gone_rooms c.loop-unit.rest m unit rooms.waiting.items _ some is c.min-bytes.ensures c.if-unit-gt0.true inv.rooms

pub returns-then-unit-gt0-clause-last : goal.returns-then-unit-gt0-clause-last
returns-then-unit-gt0-clause-last c =
    let rooms = c.loop-unit.self in
    let inv = c.loop-unit.invariant in
    let unit = c.in-Some.unit.now in
    let m = c.min-bytes.result in
    let is = c.in-Some.ensures.value in
    let some : 0 < length rooms.waiting.items = omega (arith, c.in-Some.ensures.variant.0 refl, rooms.waiting.ok.0) in
    gone_time c.args.leak rooms.last c.gone-self.result c.loop-unit.rest m _ unit rooms.waiting.items some is c.min-bytes.ensures c.if-unit-gt0.true
    c.gone-self.ensures inv.last

pub invariant_of-self-in-Some : goal.invariant_of-self-in-Some
invariant_of-self-in-Some c =
    let rooms = c.loop-unit.self in
    let inv = c.loop-unit.invariant in
    let unit = c.in-Some.unit.now in
    let m = c.min-bytes.result in
    let is = c.in-Some.ensures.value in
    let some : 0 < length rooms.waiting.items = omega (arith, c.in-Some.ensures.variant.0 refl, rooms.waiting.ok.0) in
    let fits = fewer_fits rooms.free (2 ^ 64) unit rooms.current rooms.waiting.items some is rooms.few in
    let left = c.pop_front.ensures.rest ∙ drop_set rooms.waiting.items _ in
    let same = ap (λ (us : List BufferedUnit). length (rooms_in rooms.free us rooms.current)) left in
    record { few = omega (arith, fits, same) }

pub loop-unit-preserved : goal.loop-unit-preserved
loop-unit-preserved c =
    let rooms = c.loop-unit.self in
    let inv = c.loop-unit.invariant in
    let unit = c.in-Some.unit.now in
    let m = c.min-bytes.result in
    let is = c.in-Some.ensures.value in
    let some : 0 < length rooms.waiting.items = omega (arith, c.in-Some.ensures.variant.0 refl, rooms.waiting.ok.0) in
    let left = c.pop_front.ensures.rest ∙ drop_set rooms.waiting.items _ in
    let none = c.if-unit-gt0.false in
    let few = c.min-bytes.ensures in
    let rest = c.loop-unit.rest in
    record {
      rest = ap (λ (us : List BufferedUnit). rest - m - length (rooms_waiting us)) left ∙ next_rest rest m _ unit rooms.waiting.items some is few none inv.rest;
      rooms = ap (λ (us : List BufferedUnit). drop (rest - m) (rooms_waiting us)) left
          ∙ next_rooms rest m unit rooms.waiting.items _ some is few none inv.rooms;
      last = ap (λ (us : List BufferedUnit). capped (last_left c.args.leak c.gone-self.result (take (rest - m) (rooms_waiting us)))) left
          ∙ next_time c.args.leak rooms.last c.gone-self.result rest m _ unit rooms.waiting.items some is few none c.gone-self.ensures inv.last;
      free = inv.free;
      current = inv.current;
    }

pub returns-clause-rest : goal.returns-clause-rest
returns-clause-rest c =
    let items = c.loop-unit.self.waiting.items in
    end_rest c.loop-unit.rest _ items (none_wait items _ c.loop-unit.self.waiting.ok.0 c.in_default.ensures.variant.1) c.loop-unit.invariant.rest

pub returns-clause-rooms : goal.returns-clause-rooms
returns-clause-rooms c =
    let items = c.loop-unit.self.waiting.items in
    end_rooms c.loop-unit.rest items _ (none_wait items _ c.loop-unit.self.waiting.ok.0 c.in_default.ensures.variant.1) c.loop-unit.invariant.rooms

pub returns-clause-last : goal.returns-clause-last
returns-clause-last c =
    let items = c.loop-unit.self.waiting.items in
    end_time c.args.leak c.loop-unit.self.last c.loop-unit.rest _ items (none_wait items _ c.loop-unit.self.waiting.ok.0 c.in_default.ensures.variant.1)
    c.loop-unit.invariant.last
