-- What a queue represents, slot by slot and unit by unit.
use Rattle.std.proofs.Common.{◌≡◌, ℕ, suc, ◌+◌, ◌-◌, ◌/◌, ◌^◌, ◌<◌, ◌≤◌, nat_lt, nat_le, Bool, false, Option, None, List, [], ◌∷◌, ◌++◌, length, map, refl, sym}
use Rattle.std.proofs.Common.{ap, ◌∙◌, subst, arith}
use Rattle.std.proofs.lemmas.List.{length-append, length-map, map-append, drop_all}
use Rattle.std.proofs.lemmas.List.Elements.{All-nil, All-cons, All-append}
use Rattle.clock27.specs.Release.{release}
use Rattle.own_slots.specs.Slots.{own_before}
use Rattle.own_slots.proofs.Counts.{own_before_own, own_before_other, own_before_le, own_before_lt}
use Rattle.pes_packet.specs.AccessUnits.{AccessUnit}
use Rattle.pes_packet.specs.Encoding.{pes_packet_bytes, pes_header_bytes}
use Rattle.pes_packet.specs.Marks.{field_size, marks_size}
use Rattle.unit_timing.specs.declared.allowance.Allowance.{Allowance}
use Rattle.unit_timing.specs.declared.allowance.Allowance.TheVariants.{Groups, Pace}
use Rattle.unit_timing.specs.PesPacket.{PesPacket, packets_of_unit, Spaced, Sized, GroupsWithin, next_due}
use Rattle.unit_timing.specs.Allowances.{Allows, KeepsAllowance}
use Rattle.unit_timing.specs.Levels.{level_after, is_over}
use Rattle.unit_timing.proofs.OneMoreUnit.{spaced_more_law, sized_more_law}
use Rattle.unit_timing.proofs.Levels.{allowance_more_law}
use Rattle.slot_contents.specs.Contents.{packet_of}
use Rattle.unit_queue.specs.OwnedStreams.{OwnedStream, pes_bytes, has_access, timed, first_slot, end_slot}
use Rattle.unit_queue.specs.Places.{Left, left_at, left_before, begun, begun_before, content_of}
use Rattle.unit_queue.specs.Causes.{or_cause, own_cause, time_cause, packets_cause, room_cause, is_late, is_full, over_cause, min_next_dts_of, unit_cause}
use Rattle.unit_queue.specs.Queues.{IsUnit, max_packets_per_unit, Queued, Queue, queued, queue_at, queue_of}
use Rattle.unit_queue.specs.Tallies.{Tally, empty_tally, exceeds, counted, tally_of}
use Rattle.unit_queue.specs.QueueSteps.{queue_content, sent_in, state_cause, accepted}
use Rattle.unit_queue.specs.Laws.{FirstLaw, StreamSlotLaw, OtherStreamSlotLaw, CauseLaw, FedLaw, KeptLaw, LaterUnitLaw}
use Rattle.unit_queue.proofs.Leftover.{count_some, first_released, header_most, left_left, left_free, left_unfinished, left_fed, place_left, place_fed}
use Rattle.unit_queue.proofs.QueueSteps.{step}
use Rattle.unit_queue.proofs.Tallies.{over_same, tally_on}
use Rattle.unit_queue.proofs.CauseLemmas.{or_none, not_lt, or_false, OwnFacts, own_facts, time_facts, room_facts}

-- A queue without units.
none_counted : (a : Allowance) → empty_tally a ≡ tally_of a []
unfolding level_after
none_counted (Groups g most) = rw (drop_all {X = ℕ} (0 - (g - 1)) [] (omega arith)) refl
none_counted (Pace burst pace) = refl

none_kept : (a : Allowance) (n : ℕ) → KeepsAllowance a n []
unfolding GroupsWithin Allows
none_kept (Groups g most) n = tt
none_kept (Pace burst pace) n = tt

pub first_law : FirstLaw
unfolding left_at begun next_due Spaced Sized own_before
first_law l capacity = record {
  state = ap (λ (tally : Tally). queue_at l 0 0 [] capacity 0 tally) (none_counted l.parameters.allowance);
  kept = record {
    units = All-nil (IsUnit l.parameters);
    spaced = tt;
    sized = tt;
    allowed = none_kept l.parameters.allowance (max_packets_per_unit l.parameters);
  };
}

-- An own slot.
pub own_slot_law : StreamSlotLaw
own_slot_law l slots capacity us q mine holds =
    let p = own_before l.own slots in
    let left = left_before l slots us in
    let tally = tally_of l.parameters.allowance (map (timed l) us) in
    let one = step l slots left.free left.number left.units capacity (min_next_dts_of l us) tally mine (left_free l p 0 0 us (omega arith))
    (left_unfinished l p 0 0 us) in
    let next : own_before l.own (suc slots) ≡ suc (own_before l.own slots) = omega (arith, own_before_own l.own slots mine) in
    let on : left_before l (suc slots) us ≡ left_at l (suc (own_before l.own slots)) (left_before l slots us).free (left_before l slots us).number
    (left_before l slots us).units =
    ap (λ (n : ℕ). left_at l n 0 0 us) next ∙ left_left l p 0 0 (suc p) us (omega arith) in
    let begun_on : begun_before l (suc slots) us
    ≡ begun l (suc (own_before l.own slots))
    (left_at l (suc (own_before l.own slots)) (left_before l slots us).free (left_before l slots us).number (left_before l slots us).units).free
    (left_at l (suc (own_before l.own slots)) (left_before l slots us).free (left_before l slots us).number (left_before l slots us).units).units =
    ap (λ (n : ℕ). begun l n (left_before l (suc slots) us).free (left_before l (suc slots) us).units) next
    ∙ ap (λ (x : Left). begun l (suc p) x.free x.units) on in
    let state : sent_in slots (queue_of l slots capacity us) ≡ queue_of l (suc slots) capacity us =
    one.state
    ∙ sym (ap (λ (x : Left). queue_at l x.number (begun_before l (suc slots) us) x.units capacity (min_next_dts_of l us) tally) on
    ∙ ap (λ (b : ℕ). queue_at l (left_at l (suc p) left.free left.number left.units).number b (left_at l (suc p) left.free left.number left.units).units
    capacity (min_next_dts_of l us) tally) begun_on) in
    record {
      packet = ap (λ (x : Queue). packet_of (queue_content slots x)) holds.state ∙ one.packet
          ∙ ap (λ (x : Option _). packet_of (content_of l x)) (sym (place_left l p 0 0 p us (omega arith)));
      holds = record { state = ap (λ (x : Queue). sent_in slots x) holds.state ∙ state; kept = holds.kept };
    }

-- A slot of another item.
pub other_slot_law : OtherStreamSlotLaw
other_slot_law l slots capacity us q other holds =
    let same : own_before l.own (suc slots) ≡ own_before l.own slots = own_before_other l.own slots other in
    record {
      state = holds.state ∙ sym (ap (λ (p : ℕ). queue_at l (left_at l p 0 0 us).number (begun l p (left_at l p 0 0 us).free (left_at l p 0 0 us).units)
          (left_at l p 0 0 us).units capacity (min_next_dts_of l us) (tally_of l.parameters.allowance (map (timed l) us))) same);
      kept = holds.kept;
    }

-- The least DTS of the next unit is the last unit's DTS plus the declared distance.
next_last : (apart from : ℕ) (texts : List PesPacket) (pes : PesPacket) → next_due apart from (texts ++ pes ∷ []) ≡ pes.dts + apart
unfolding next_due
next_last apart from [] pes = refl
next_last apart from (first ∷ texts) pes = next_last apart (first.dts + apart) texts pes

next_from : (apart from d : ℕ) (texts : List PesPacket) → next_due apart 0 texts ≤ d → from ≤ d → next_due apart from texts ≤ d
unfolding next_due
next_from apart from d [] next le = le
next_from apart from d (first ∷ texts) next le = next

-- A unit exceeds the allowance by the tally if and only if it does by the history.
over_after : (l : OwnedStream) (us : List AccessUnit) (u : AccessUnit) →
    exceeds l.parameters.allowance (tally_of l.parameters.allowance (map (timed l) us)) (min_next_dts_of l us - l.parameters.interval) (timed l u)
    ≡ is_over l.parameters.allowance (map (timed l) us) (timed l u)
over_after l us u =
    let a = l.parameters.allowance in
    ap (λ (last : ℕ). exceeds a (tally_of a (map (timed l) us)) last (timed l u)) (allowance_more_law.last l.parameters.interval (map (timed l) us))
    ∙ over_same a (map (timed l) us) (timed l u)

tally_after : (l : OwnedStream) (us : List AccessUnit) (u : AccessUnit) →
    tally_of l.parameters.allowance (map (timed l) (us ++ u ∷ []))
    ≡ counted l.parameters.allowance (tally_of l.parameters.allowance (map (timed l) us)) (min_next_dts_of l us - l.parameters.interval) (timed l u)
tally_after l us u =
    let a = l.parameters.allowance in
    ap (tally_of a) (map-append (timed l) us (u ∷ [])) ∙ sym (tally_on a (map (timed l) us) (timed l u))
    ∙ ap (λ (last : ℕ). counted a (tally_of a (map (timed l) us)) last (timed l u)) (sym (allowance_more_law.last l.parameters.interval (map (timed l) us)))

-- A queue refuses a unit for the cause that the history gives.
pub cause_law : CauseLaw
cause_law l slots capacity us q u holds =
    ap (λ (x : Queue). state_cause slots x u) holds.state
    ∙ ap (λ (n : ℕ). or_cause (own_cause l.parameters.size l.parameters.pts_limit (min_next_dts_of l us) u) (or_cause (time_cause (is_late l slots u) u.dts)
    (room_cause (nat_le capacity n) (packets_cause l.parameters.allowance
    (exceeds l.parameters.allowance (tally_of l.parameters.allowance (map (timed l) us)) (min_next_dts_of l us - l.parameters.interval) (timed l u))))))
    (length-map (left_before l slots us).units (queued l.parameters))
    ∙ ap (λ (over : Bool). or_cause (own_cause l.parameters.size l.parameters.pts_limit (min_next_dts_of l us) u)
    (or_cause (time_cause (is_late l slots u) u.dts)
    (room_cause (is_full l slots capacity us) (packets_cause l.parameters.allowance over))))
    (over_after l us u)

-- The facts about a unit that is accepted.
pub record Accepted (l : OwnedStream) (slots : ℕ) (us : List AccessUnit) (u : AccessUnit) : Type 0 where
  pub own : OwnFacts l.parameters.size l.parameters.pts_limit (min_next_dts_of l us) u
  pub lead : l.parameters.lead ≤ u.dts
  pub released : slots ≤ release l.parameters.rate l.parameters.lead u.dts
  pub last : u.dts ≤ 2 ^ 52
  pub within : is_over l.parameters.allowance (map (timed l) us) (timed l u) ≡ false

pub accepted_facts : (l : OwnedStream) (slots capacity : ℕ) (us : List AccessUnit) (u : AccessUnit) → unit_cause l slots capacity us u ≡ None →
    Accepted l slots us u
accepted_facts l slots capacity us u none =
    let own = own_cause l.parameters.size l.parameters.pts_limit (min_next_dts_of l us) u in
    let time = time_cause (is_late l slots u) u.dts in
    let room = room_cause (is_full l slots capacity us) (over_cause l us u) in
    let a = or_none own (or_cause time room) none in
    let b = or_none time room a.1 in
    let t = time_facts (is_late l slots u) u.dts b.0 in
    let late = or_false (nat_lt u.dts l.parameters.lead) (nat_lt (release l.parameters.rate l.parameters.lead u.dts) slots) t.0 in
    let r = room_facts l.parameters.allowance (is_full l slots capacity us) (is_over l.parameters.allowance (map (timed l) us) (timed l u)) b.1 in
    record {
      own = own_facts l.parameters.size l.parameters.pts_limit (min_next_dts_of l us) u a.0;
      lead = not_lt u.dts l.parameters.lead late.0;
      released = not_lt (release l.parameters.rate l.parameters.lead u.dts) slots late.1;
      last = t.1;
      within = r.1;
    }

-- An accepted unit stays within the declaration.
text_most : (l : OwnedStream) (u : AccessUnit) → length u.bytes + marks_size u.marks ≤ l.parameters.size →
    field_size (has_access u) + length (pes_bytes l u) ≤ 19 + l.parameters.size
unfolding pes_packet_bytes
text_most l u most =
    let header = pes_header_bytes l.parameters.stream_id (length u.bytes) u.marks (u.pts + l.parameters.base0) (u.dts + l.parameters.base0) in
    omega (
      arith,
      most,
      length-append header u.bytes,
      header_most l.parameters.stream_id (length u.bytes) u.marks (u.pts + l.parameters.base0) (u.dts + l.parameters.base0),
    )

pub kept_law : KeptLaw
kept_law l slots capacity us u rules none kept =
    let facts = accepted_facts l slots capacity us u none in
    let texts = map (timed l) us in
    let more : map (timed l) (us ++ u ∷ []) ≡ map (timed l) us ++ timed l u ∷ [] = map-append (timed l) us (u ∷ []) in
    let filled = text_most l u facts.own.most in
    let most : length (pes_bytes l u) ≤ 19 + l.parameters.size = omega (arith, filled) in
    let pieces : packets_of_unit (timed l u) ≤ max_packets_per_unit l.parameters = omega (arith, filled) in
    let spaced = spaced_more_law.more l.parameters.interval l.parameters.lead texts (timed l u) kept.spaced
    (next_from l.parameters.interval l.parameters.lead u.dts texts facts.own.spaced facts.lead) in
    let unit : IsUnit l.parameters u =
    record { some = facts.own.some; most = facts.own.most; later = facts.own.later; soon = facts.own.soon; last = facts.last } in
    record {
      units = All-append (IsUnit l.parameters) us (u ∷ []) kept.units (All-cons (IsUnit l.parameters) u [] unit (All-nil (IsUnit l.parameters)));
      spaced = subst (λ (t : List PesPacket). Spaced l.parameters.interval l.parameters.lead t) (sym more) spaced;
      sized = subst (λ (t : List PesPacket). Sized (19 + l.parameters.size) t) (sym more)
          (sized_more_law.more (19 + l.parameters.size) texts (timed l u) kept.sized most);
      allowed = subst (λ (t : List PesPacket). KeepsAllowance l.parameters.allowance (max_packets_per_unit l.parameters) t) (sym more)
          (allowance_more_law.more l.parameters.allowance (max_packets_per_unit l.parameters) l.parameters.interval l.parameters.lead texts (timed l u)
          rules.rows spaced kept.allowed pieces facts.within);
    }

-- An accepted unit does not begin before the slots that are written.
later_first : (l : OwnedStream) (slots free : ℕ) (u : AccessUnit) → slots ≤ release l.parameters.rate l.parameters.lead u.dts →
    own_before l.own slots ≤ first_slot l free u
later_first l slots free u released =
    omega (arith, first_released l free u, own_before_le l.own slots (release l.parameters.rate l.parameters.lead u.dts) released)

begun_fed : (l : OwnedStream) (p free : ℕ) (us : List AccessUnit) (u : AccessUnit) → p ≤ first_slot l free u → begun l p free (us ++ u ∷ []) ≡ begun l p free us
unfolding begun
begun_fed l p free [] u before = omega arith
begun_fed l p free (v ∷ us) u before = refl

pub fed_law : FedLaw
fed_law l slots capacity us q u rules none holds =
    let facts = accepted_facts l slots capacity us u none in
    let p = own_before l.own slots in
    let left = left_before l slots us in
    let tally = tally_of l.parameters.allowance (map (timed l) us) in
    let first : (f : ℕ) → own_before l.own slots ≤ first_slot l f u = λ f. later_first l slots f u facts.released in
    let below : (f : ℕ) → own_before l.own slots < end_slot l f u = λ f. omega (arith, first f, count_some l u) in
    let on : left_before l slots (us ++ u ∷ [])
    ≡ record { free = (left_before l slots us).free; number = (left_before l slots us).number; units = (left_before l slots us).units ++ u ∷ [] } =
    left_fed l p 0 0 us u below in
    let begun_on : begun_before l slots (us ++ u ∷ []) ≡ begun_before l slots us =
    ap (λ (x : Left). begun l p x.free x.units) on ∙ begun_fed l p left.free left.units u (first left.free) in
    let min_next_dts : min_next_dts_of l (us ++ u ∷ []) ≡ u.dts + l.parameters.interval =
    ap (λ (t : List PesPacket). next_due l.parameters.interval 0 t) (map-append (timed l) us (u ∷ []))
    ∙ next_last l.parameters.interval 0 (map (timed l) us) (timed l u) in
    let all = tally_of l.parameters.allowance (map (timed l) (us ++ u ∷ [])) in
    let next = counted l.parameters.allowance tally (min_next_dts_of l us - l.parameters.interval) (timed l u) in
    let state : queue_of l slots capacity (us ++ u ∷ []) ≡ accepted (queue_of l slots capacity us) u =
    ap (λ (x : Left). queue_at l x.number (begun_before l slots (us ++ u ∷ [])) x.units capacity (min_next_dts_of l (us ++ u ∷ [])) all) on
    ∙ ap (λ (b : ℕ). queue_at l left.number b (left.units ++ u ∷ []) capacity (min_next_dts_of l (us ++ u ∷ [])) all) begun_on
    ∙ ap (λ (e : ℕ). queue_at l left.number (begun_before l slots us) (left.units ++ u ∷ []) capacity e all) min_next_dts
    ∙ ap (λ (t : Tally). queue_at l left.number (begun_before l slots us) (left.units ++ u ∷ []) capacity (u.dts + l.parameters.interval) t)
    (tally_after l us u)
    ∙ ap (λ (xs : List Queued). record (queue_at l left.number (begun_before l slots us) [] capacity (u.dts + l.parameters.interval) next) { units = xs })
    (map-append (queued l.parameters) left.units (u ∷ [])) in
    record { state = ap (λ (x : Queue). accepted x u) holds.state ∙ sym state; kept = kept_law l slots capacity us u rules none holds.kept }

-- An accepted unit changes nothing in earlier own slots.
pub later_unit_law : LaterUnitLaw
later_unit_law l slots capacity us u t none mine before =
    let facts = accepted_facts l slots capacity us u none in
    let first : (f : ℕ) → own_before l.own t < first_slot l f u = λ f.
    omega (arith, later_first l slots f u facts.released, own_before_lt l.own t slots mine before) in
    ap (λ (x : Option _). content_of l x) (place_fed l 0 0 (own_before l.own t) us u first)
