use Rattle.std.proofs.Common.{rules, ◌≡◌, ◌≤◌, ◌+◌, ◌++◌, ◌∷◌, [], Some, None, length, nat_le, sym, ◌∙◌, arith, subst}
use Rattle.unit_queue.specs.declared.parameters.StreamParameters.{StreamParameters}
use Rattle.pes_packet.specs.Marks.{field_size}
use Rattle.unit_queue.specs.OwnedStreams.{has_access}
use Rattle.unit_queue.specs.QueueSteps.{late_at, is_over_for, timed_by}
use Rattle.unit_queue.specs.Causes.{own_cause, time_cause, packets_cause, room_cause}
use Rattle.unit_queue.specs.Queues.{Queue, QueueHolds, ParametersInRange, IsUnit}
use Rattle.unit_queue.proofs.QueueStates.{cause_law, fed_law}
use Rattle.unit_queue.proofs.CauseLemmas.{or_first, unit_is, fits_unit, size_few, timed_is, room_is, queued_is, accepted_is, room_facts, not_le}
use Rattle.unit_queue.proofs.queue.UnitQueue.feed.Goals as goal

pub returns-in-Err-clause-cause : goal.returns-in-Err-clause-cause
returns-in-Err-clause-cause g c =
    let q = c.args.self.now in
    let u = c.args.unit in
    or_first (own_cause q.parameters.size q.parameters.pts_limit q.min_next_dts u) (time_cause (late_at q.parameters c.args.slots u.dts) u.dts)
    (room_cause (nat_le q.capacity (length q.units)) (packets_cause q.parameters.allowance (is_over_for q (timed_by q.parameters u)))) c.in-Err.cause
    c.in-Err.ensures.cause

-- The stream accepts the unit.
pub header-header-requires-clause-fits : goal.header-header-requires-clause-fits
header-header-requires-clause-fits g c =
    let q = c.args.self.now in
    let unit = unit_is q.parameters q.min_next_dts (late_at q.parameters c.args.slots c.args.unit.dts) c.args.unit c.in-Ok.ensures.cause in
    let same : c.args.self.now.parameters ≡ c.self.inside.parameters = search rules in
    fits_unit c.self.inside.parameters c.args.unit c.self.invariant (subst (λ (r : StreamParameters). IsUnit r c.args.unit) same unit)

pub header-header-requires-clause-dts : goal.header-header-requires-clause-dts
header-header-requires-clause-dts g c =
    let q = c.args.self.now in
    let unit = unit_is q.parameters q.min_next_dts (late_at q.parameters c.args.slots c.args.unit.dts) c.args.unit c.in-Ok.ensures.cause in
    omega (arith, unit.last)

pub header-header-requires-clause-pts : goal.header-header-requires-clause-pts
header-header-requires-clause-pts g c =
    let q = c.args.self.now in
    let unit = unit_is q.parameters q.min_next_dts (late_at q.parameters c.args.slots c.args.unit.dts) c.args.unit c.in-Ok.ensures.cause in
    let same : q.parameters ≡ c.self.inside.parameters = search rules in
    let limit = c.self.invariant.pts_limit in
    let few : q.parameters.pts_limit ≤ 5_400_000 = rw same limit in
    omega (arith, unit.last, unit.soon, few)

pub room-requires : goal.room-requires
room-requires g c =
    let q = c.args.self.now in
    let unit = unit_is q.parameters q.min_next_dts (late_at q.parameters c.args.slots c.args.unit.dts) c.args.unit c.in-Ok.ensures.cause in
    let same : c.args.self.now.parameters ≡ c.self.inside.parameters = search rules in
    let bytes : c.len-2.result ≡ length c.args.unit.bytes = search rules in
    let few = size_few c.self.inside.parameters c.args.unit c.len.result c.self.invariant (subst (λ (r : StreamParameters). IsUnit r c.args.unit) same unit)
    c.len.ensures.fits in
    omega (arith, bytes, few, c.field_size-front.ensures.most)

pub returns-in-Some-clause-cause : goal.returns-in-Some-clause-cause
returns-in-Some-clause-cause g c =
    let q = c.args.self.now in
    let u = c.args.unit in
    let size = c.len.result + c.len-2.result in
    let same : c.self.inside.parameters ≡ c.args.self.now.parameters = search rules in
    let dts : c.unit.inside.dts ≡ c.args.unit.dts = search rules in
    let field : c.field_size-front.result ≡ field_size (has_access c.args.unit) = search rules in
    let parts : c.len.result + c.len-2.result ≡ length c.header-header.result.items + length c.args.unit.bytes = search rules in
    let timed = timed_is q.parameters c.self.inside.parameters u c.unit.inside.dts size c.field_size-front.result c.header-header.result.items same dts field
    parts c.header-header.ensures in
    room_is q c.args.slots u (record { dts = c.unit.inside.dts; size = size; front = c.field_size-front.result }) (Some c.in-Some.cause) timed
    c.in-Ok.ensures.cause c.in-Some.ensures

-- The queue has room for the unit, and the unit is within the allowance.
pub push-requires-clause-dts : goal.push-requires-clause-dts
push-requires-clause-dts g c =
    let q = c.args.self.now in
    let unit = unit_is q.parameters q.min_next_dts (late_at q.parameters c.args.slots c.args.unit.dts) c.args.unit c.in-Ok.ensures.cause in
    let same : c.unit.inside.dts ≡ c.args.unit.dts = search rules in
    omega (arith, unit.last, same)

pub push-requires-clause-size : goal.push-requires-clause-size
push-requires-clause-size g c =
    let q = c.args.self.now in
    let unit = unit_is q.parameters q.min_next_dts (late_at q.parameters c.args.slots c.args.unit.dts) c.args.unit c.in-Ok.ensures.cause in
    let same : c.args.self.now.parameters ≡ c.self.inside.parameters = search rules in
    let bytes : c.len-2.result ≡ length c.args.unit.bytes = search rules in
    let few = size_few c.self.inside.parameters c.args.unit c.len.result c.self.invariant (subst (λ (r : StreamParameters). IsUnit r c.args.unit) same unit)
    c.len.ensures.fits in
    omega (arith, bytes, few, c.field_size-front.ensures.most)

pub push-requires-clause-room : goal.push-requires-clause-room
push-requires-clause-room g c =
    let q = c.args.self.now in
    not_le q.capacity (length q.units) (room_facts q.parameters.allowance (nat_le q.capacity (length q.units)) _ (sym c.in-None.ensures)).0

pub push-requires-clause-within : goal.push-requires-clause-within
push-requires-clause-within g c =
    let q = c.args.self.now in
    (room_facts q.parameters.allowance (nat_le q.capacity (length q.units)) _ (sym c.in-None.ensures)).1

pub returns-in-None-clause-cause : goal.returns-in-None-clause-cause
returns-in-None-clause-cause g c =
    let q = c.args.self.now in
    let u = c.args.unit in
    let size = c.len.result + c.len-2.result in
    let same : c.self.inside.parameters ≡ c.args.self.now.parameters = search rules in
    let dts : c.unit.inside.dts ≡ c.args.unit.dts = search rules in
    let field : c.field_size-front.result ≡ field_size (has_access c.args.unit) = search rules in
    let parts : c.len.result + c.len-2.result ≡ length c.header-header.result.items + length c.args.unit.bytes = search rules in
    let timed = timed_is q.parameters c.self.inside.parameters u c.unit.inside.dts size c.field_size-front.result c.header-header.result.items same dts field
    parts c.header-header.ensures in
    room_is q c.args.slots u (record { dts = c.unit.inside.dts; size = size; front = c.field_size-front.result }) None timed c.in-Ok.ensures.cause
    c.in-None.ensures

pub returns-in-None-clause-state : goal.returns-in-None-clause-state
returns-in-None-clause-state g c =
    let q = c.args.self.now in
    let u = c.args.unit in
    let size = c.len.result + c.len-2.result in
    let same : c.self.inside.parameters ≡ c.args.self.now.parameters = search rules in
    let dts : c.unit.inside.dts ≡ c.args.unit.dts = search rules in
    let field : c.field_size-front.result ≡ field_size (has_access c.args.unit) = search rules in
    let parts : c.len.result + c.len-2.result ≡ length c.header-header.result.items + length c.args.unit.bytes = search rules in
    let timed = timed_is q.parameters c.self.inside.parameters u c.unit.inside.dts size c.field_size-front.result c.header-header.result.items same dts field
    parts c.header-header.ensures in
    let taken = queued_is q.parameters c.self.inside.parameters u c.in-Ok.slot c.header-header.result.items same c.in-Ok.ensures.slot c.header-header.ensures in
    c.push.ensures ∙ accepted_is q u (record { dts = c.unit.inside.dts; size = size; front = c.field_size-front.result }) c.new.result timed
    (c.new.ensures ∙ taken)

-- A queue refuses a unit for the cause that its history gives, and represents one more unit if it accepts the unit.
pub returns-in-Err-clause-refused : goal.returns-in-Err-clause-refused
returns-in-Err-clause-refused g c = λ l capacity us holds.
    returns-in-Err-clause-cause g c ∙ cause_law l c.args.slots capacity us c.args.self.now c.args.unit holds

pub returns-in-Some-clause-refused : goal.returns-in-Some-clause-refused
returns-in-Some-clause-refused g c = λ l capacity us holds.
    returns-in-Some-clause-cause g c ∙ cause_law l c.args.slots capacity us c.args.self.now c.args.unit holds

pub returns-in-None-clause-refused : goal.returns-in-None-clause-refused
returns-in-None-clause-refused g c = λ l capacity us holds.
    returns-in-None-clause-cause g c ∙ cause_law l c.args.slots capacity us c.args.self.now c.args.unit holds

pub returns-in-None-clause-represents : goal.returns-in-None-clause-represents
returns-in-None-clause-represents g c = λ l capacity us holds.
    let in_range : ParametersInRange l.parameters =
    subst (λ (q : Queue). ParametersInRange q.parameters) (c.self.view_is ∙ holds.state) c.self.invariant in
    subst (λ (q : Queue). QueueHolds l c.args.slots capacity (us ++ c.args.unit ∷ []) q) (sym (returns-in-None-clause-state g c))
    (fed_law l c.args.slots capacity us c.args.self.now c.args.unit in_range
    (sym (returns-in-None-clause-cause g c ∙ cause_law l c.args.slots capacity us c.args.self.now c.args.unit holds)) holds)
