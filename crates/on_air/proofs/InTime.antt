-- A unit that arrives in time
use Rattle.std.proofs.Common.{◌≡◌, nat_lt, false, Bool, map, Option, None, refl, sym, ap, ◌∙◌}
use Rattle.std.proofs.lemmas.Bool.{le-ltb}
use Rattle.clock27.specs.Release.{release}
use Rattle.unit_timing.specs.Levels.{is_over}
use Rattle.unit_queue.specs.declared.refusal.FeedError.{FeedError}
use Rattle.unit_queue.specs.OwnedStreams.{timed}
use Rattle.unit_queue.specs.Causes.{or_cause, time_cause, room_cause, is_late, is_full, over_cause}
use Rattle.unit_queue.proofs.CauseLemmas.{or_none, or_false, time_facts, room_facts}
use Rattle.on_air.specs.Laws.{TakenInTime}

none_of : (a b c : Option FeedError) → a ≡ None → b ≡ None → c ≡ None → or_cause a (or_cause b c) ≡ None
unfolding or_cause
none_of a b c e f g = rw (e, f, g) refl

pub taken_in_time : TakenInTime
taken_in_time l slots capacity other us u accepted early room =
    let own = or_none _ _ accepted in
    let rest = or_none _ _ own.1 in
    let time = time_facts (is_late l 0 u) u.dts rest.0 in
    let lead = or_false (nat_lt u.dts l.parameters.lead) (nat_lt (release l.parameters.rate l.parameters.lead u.dts) 0) time.0 in
    let facts = room_facts l.parameters.allowance (is_full l 0 other us) (is_over l.parameters.allowance (map (timed l) us) (timed l u)) rest.1 in
    let written : nat_lt (release l.parameters.rate l.parameters.lead u.dts) slots ≡ false =
    le-ltb (release l.parameters.rate l.parameters.lead u.dts) slots early in
    let late : is_late l slots u ≡ false = rw (lead.0, written) refl in
    none_of _ _ _ own.0
    (ap (λ (b : Bool). time_cause b u.dts) (late ∙ sym time.0) ∙ rest.0)
    (ap (λ (b : Bool). room_cause b (over_cause l us u)) (room ∙ sym facts.0) ∙ rest.1)
