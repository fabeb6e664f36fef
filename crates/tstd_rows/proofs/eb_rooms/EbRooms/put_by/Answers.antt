use Rattle.std.proofs.Common.{◌≡◌, ◌∙◌, ◌<◌, ◌^◌, Bool, if◌then◌else◌, is_ok, List, [], ◌∷◌, ◌++◌, length, refl, ap, arith}
use Rattle.tstd.specs.declared.buffered_units.BufferedUnit.{BufferedUnit}
use Rattle.tstd_rows.specs.RoomTimes.{raised}
use Rattle.tstd_rows.proofs.LastRoom.{after_them, both_fit, joins_fits, joins_many, joins_rooms, last_fits, none_comes, same_set}
use Rattle.tstd_rows.proofs.eb_rooms.EbRooms.put_by.Goals as goal
use Rattle.tstd_rows.proofs.eb_rooms.EbRooms.put_by.Goals.{in-Some+else-current-unit, else-current-unit-via-then-current-unit+else-unit-gt0}
use Rattle.tstd_rows.proofs.eb_rooms.EbRooms.put_by.Goals.{else-current-unit-via-else-current-unit, in_default}

pub overflow_add-unit : goal.overflow_add-unit
overflow_add-unit c =
    let rooms = c.args.self.now in
    let some : 0 < length rooms.waiting.items = omega (arith, c.in-Some.ensures.variant.0 refl, rooms.waiting.ok.0) in
    let unit = c.in-Some.unit.now in
    record {
      fits = both_fit rooms.free rooms.waiting.len (2 ^ 64) rooms.waiting.items unit rooms.current rooms.waiting.ok.0 some c.in-Some.ensures.value
          rooms.few;
    }

pub invariant_of-self : goal.invariant_of-self
invariant_of-self c =
    let rooms = c.args.self.now in
    let some : 0 < length rooms.waiting.items = omega (arith, c.in-Some.ensures.variant.0 refl, rooms.waiting.ok.0) in
    let unit = c.in-Some.unit.now in
    record {
      few = joins_fits rooms.free rooms.waiting.len (2 ^ 64) rooms.waiting.items unit rooms.current rooms.waiting.ok.0 some c.in-Some.ensures.value
          rooms.few;
    }

pub returns-then-unit-gt0-clause-rooms : goal.returns-then-unit-gt0-clause-rooms
returns-then-unit-gt0-clause-rooms c = λ from.
    let rooms = c.args.self.now in
    let some : 0 < length rooms.waiting.items = omega (arith, c.in-Some.ensures.variant.0 refl, rooms.waiting.ok.0) in
    let unit = c.in-Some.unit.now in
    joins_rooms from rooms.free rooms.waiting.len rooms.waiting.items unit rooms.current rooms.waiting.ok.0 some c.in-Some.ensures.value
    c.if-current-unit.true c.if-unit-gt0.true

pub returns-then-unit-gt0-clause-many : goal.returns-then-unit-gt0-clause-many
returns-then-unit-gt0-clause-many c =
    let rooms = c.args.self.now in
    let some : 0 < length rooms.waiting.items = omega (arith, c.in-Some.ensures.variant.0 refl, rooms.waiting.ok.0) in
    joins_many rooms.free rooms.waiting.len rooms.waiting.items c.in-Some.unit.now rooms.current rooms.waiting.ok.0 some c.in-Some.ensures.value

pub invariant_of-self-then-current-gt0 : goal.invariant_of-self-then-current-gt0
invariant_of-self-then-current-gt0 c =
    let rooms = c.args.self.now in
    let same : c.match-back_mut.self.1.1.0.items ≡ rooms.waiting.items = elim c.match-back_mut.branch [
      | in-Some+else-current-unit w ↦
          let some : 0 < length rooms.waiting.items = omega (arith, w.in-Some.ensures.variant.0 refl, rooms.waiting.ok.0) in
          let last = same_set rooms.waiting.items rooms.waiting.len w.in-Some.unit.now rooms.waiting.ok.0 some w.in-Some.ensures.value in
          rw w.self-is elim w.else-current-unit.branch [
            | else-current-unit-via-then-current-unit+else-unit-gt0 w' ↦ rw w'.self-is last
            | else-current-unit-via-else-current-unit w' ↦ rw w'.self-is last
          ]
      | in_default w ↦ rw w.self-is refl
    ] in
    let done : Bool = is_ok c.push_back.result in
    let all = c.push_back.ensures.items ∙ ap (λ (us : List BufferedUnit). if done then us ++ rooms.current ∷ [] else us) same in
    record { few = last_fits rooms.free (2 ^ 64) rooms.waiting.items c.push_back.new.self.items rooms.current done all rooms.few }

pub returns-in_ok-push_back-clause-rooms : goal.returns-in_ok-push_back-clause-rooms
returns-in_ok-push_back-clause-rooms c = λ from.
    let rooms = c.args.self.now in
    let same : c.match-back_mut.self.1.1.0.items ≡ rooms.waiting.items = elim c.match-back_mut.branch [
      | in-Some+else-current-unit w ↦
          let some : 0 < length rooms.waiting.items = omega (arith, w.in-Some.ensures.variant.0 refl, rooms.waiting.ok.0) in
          let last = same_set rooms.waiting.items rooms.waiting.len w.in-Some.unit.now rooms.waiting.ok.0 some w.in-Some.ensures.value in
          rw w.self-is elim w.else-current-unit.branch [
            | else-current-unit-via-then-current-unit+else-unit-gt0 w' ↦ rw w'.self-is last
            | else-current-unit-via-else-current-unit w' ↦ rw w'.self-is last
          ]
      | in_default w ↦ rw w.self-is refl
    ] in
    let all = c.in_ok-push_back.ensures.items ∙ ap (λ (us : List BufferedUnit). us ++ rooms.current ∷ []) same in
    ap (raised from) (after_them rooms.free rooms.waiting.items c.push_back.new.self.items rooms.current all)

pub returns-in_ok-push_back-clause-many : goal.returns-in_ok-push_back-clause-many
returns-in_ok-push_back-clause-many c =
    let rooms = c.args.self.now in
    let same : c.match-back_mut.self.1.1.0.items ≡ rooms.waiting.items = elim c.match-back_mut.branch [
      | in-Some+else-current-unit w ↦
          let some : 0 < length rooms.waiting.items = omega (arith, w.in-Some.ensures.variant.0 refl, rooms.waiting.ok.0) in
          let last = same_set rooms.waiting.items rooms.waiting.len w.in-Some.unit.now rooms.waiting.ok.0 some w.in-Some.ensures.value in
          rw w.self-is elim w.else-current-unit.branch [
            | else-current-unit-via-then-current-unit+else-unit-gt0 w' ↦ rw w'.self-is last
            | else-current-unit-via-else-current-unit w' ↦ rw w'.self-is last
          ]
      | in_default w ↦ rw w.self-is refl
    ] in
    let all = c.in_ok-push_back.ensures.items ∙ ap (λ (us : List BufferedUnit). us ++ rooms.current ∷ []) same in
    ap length (after_them rooms.free rooms.waiting.items c.push_back.new.self.items rooms.current all)

pub returns-else-current-gt0-clause-many : goal.returns-else-current-gt0-clause-many
returns-else-current-gt0-clause-many c =
    let rooms = c.args.self.now in
    let same : c.match-back_mut.self.1.1.0.items ≡ rooms.waiting.items = elim c.match-back_mut.branch [
      | in-Some+else-current-unit w ↦
          let some : 0 < length rooms.waiting.items = omega (arith, w.in-Some.ensures.variant.0 refl, rooms.waiting.ok.0) in
          let last = same_set rooms.waiting.items rooms.waiting.len w.in-Some.unit.now rooms.waiting.ok.0 some w.in-Some.ensures.value in
          rw w.self-is elim w.else-current-unit.branch [
            | else-current-unit-via-then-current-unit+else-unit-gt0 w' ↦ rw w'.self-is last
            | else-current-unit-via-else-current-unit w' ↦ rw w'.self-is last
          ]
      | in_default w ↦ rw w.self-is refl
    ] in
    ap length (none_comes rooms.free rooms.waiting.items c.match-back_mut.self.1.1.0.items rooms.current same c.if-current-gt0.false)
