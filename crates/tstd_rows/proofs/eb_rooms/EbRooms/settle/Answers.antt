use Rattle.std.proofs.Common.{◌≡◌, ◌∙◌, sym, ℕ, ◌<◌, ◌^◌, ◌∷◌, List, length, refl, ap, arith}
use Rattle.tstd.specs.declared.buffered_units.BufferedUnit.{BufferedUnit}
use Rattle.tstd_rows.specs.RoomTimes.{raised, rooms_in}
use Rattle.tstd_rows.proofs.RoomRows.{as_many_settled, front_of, joined_fits, settled, sum_fits}
use Rattle.tstd_rows.proofs.eb_rooms.EbRooms.settle.Goals as goal

pub overflow_add-self : goal.overflow_add-self
overflow_add-self c =
    let rooms = c.loop-unit.self in
    let some : 0 < length rooms.waiting.items = omega (arith, c.in-Some.ensures.variant.0 refl, rooms.waiting.ok.0) in
    record { fits = sum_fits rooms.free (2 ^ 64) c.in-Some.unit.now rooms.current rooms.waiting.items some c.in-Some.ensures.lookup rooms.few }

pub invariant_of-self : goal.invariant_of-self
invariant_of-self c =
    let rooms = c.loop-unit.self in
    let some : 0 < length rooms.waiting.items = omega (arith, c.in-Some.ensures.variant.0 refl, rooms.waiting.ok.0) in
    let fits = joined_fits rooms.free (2 ^ 64) c.in-Some.unit.now rooms.current rooms.waiting.items some c.in-Some.ensures.lookup rooms.few in
    record { few = rw c.pop_front.ensures.rest fits }

pub loop-unit-preserved : goal.loop-unit-preserved
loop-unit-preserved c =
    let rooms = c.loop-unit.self in
    let inv = c.loop-unit.invariant in
    let unit = c.in-Some.unit.now in
    let some : 0 < length rooms.waiting.items = omega (arith, c.in-Some.ensures.variant.0 refl, rooms.waiting.ok.0) in
    let whole : unit ∷ c.pop_front.new.self.items ≡ rooms.waiting.items =
    ap (λ (us : List BufferedUnit). unit ∷ us) c.pop_front.ensures.rest ∙ sym (front_of rooms.waiting.items unit some c.in-Some.ensures.lookup) in
    record {
      rooms = λ from le.
          settled from c.args.now rooms.free unit rooms.current c.pop_front.new.self.items le c.if-unit-now.false
          ∙ ap (λ (us : List BufferedUnit). raised from (rooms_in rooms.free us rooms.current)) whole ∙ inv.rooms from le;
      many = as_many_settled rooms.free unit rooms.current c.pop_front.new.self.items
          ∙ ap (λ (us : List BufferedUnit). length (rooms_in rooms.free us rooms.current)) whole ∙ inv.many;
      last = inv.last;
      current = inv.current;
    }
