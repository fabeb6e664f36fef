-- A job's room for its units is enough: no unit is refused as Full, except a stream's unit number 1,048,577.
use Rattle.std.proofs.Common.{◌≡◌, ℕ, suc, ◌+◌, ◌<◌, ◌≤◌, Bool, true, false, cond, nat_lt, List, [], ◌∷◌, ◌++◌, length, Option, Some, None, refl, sym, ap, ◌∙◌}
use Rattle.std.proofs.Common.{subst, arith, inl, inr, append_assoc}
use Rattle.std.specs.Prelude.{slice_get, min, max}
use Rattle.std.proofs.lemmas.Bool.{lt-leb, cases_eq, cases_lt}
use Rattle.std.proofs.lemmas.List.{length-append}
use Rattle.pes_packet.specs.AccessUnits.{AccessUnit}
use Rattle.pes_packet.specs.Units.{units_of}
use Rattle.description_parts.specs.Described.{DescribedStream}
use Rattle.description_parts.specs.Tables.{stream_on_air}
use Rattle.own_slots.specs.Slots.{own_before}
use Rattle.unit_queue.specs.OwnedStreams.{OwnedStream, end_slot, packet_count}
use Rattle.unit_queue.specs.Places.{Left, left_at, left_before}
use Rattle.unit_queue.specs.Causes.{first_cause, is_late, is_full, over_cause, min_next_dts_of}
use Rattle.unit_queue.specs.declared.refusal.FeedError.{FeedError}
use Rattle.mux_core.specs.Scheduled.{Scheduled}
use Rattle.mux_core.specs.Histories.{owned_stream}
use Rattle.mux_core.specs.MuxStates.{if_on_air, feed_cause}
use Rattle.mux_core.specs.WholeJobs.{max_stream_units, job_history, or_cause, unit_refused, cause_after, first_refused, RoomForAll}
use Rattle.mux_core.specs.declared.room.Room.TheVariants.{Units}
use Rattle.mux_core.specs.declared.multiplexing.MuxError.{MuxError}
use Rattle.mux_core.proofs.UnitCounts.{own_units, other_units, units_append}

-- No stream has more units than the maximum.
most_bounds : (k : ℕ) (units : List (ℕ × AccessUnit)) → length (units_of k units) ≤ max_stream_units units
unfolding max_stream_units
most_bounds k [] = omega arith
most_bounds k (entry ∷ rest) = elim (cases_eq entry.0 k) [
  | inl e ↦
      let here : length (units_of k (entry ∷ rest)) ≡ suc (length (units_of entry.0 rest)) =
      ap (length {A = AccessUnit}) (own_units k entry rest e) ∙ ap (λ (n : ℕ). suc (length (units_of n rest))) (sym e) in
      omega (arith, here)
  | inr ne ↦
      let here : length (units_of k (entry ∷ rest)) ≡ length (units_of k rest) = ap (length {A = AccessUnit}) (other_units k entry rest ne) in
      omega (arith, here, most_bounds k rest)
]

-- The units that are left are at most as many as all units.
left_in : (left : Left) (us : List AccessUnit) (first : Left) (b : Bool) → length first.units ≤ length us → length left.units ≤ length us →
    length (cond b first left).units ≤ length us
left_in left us first true one two = one
left_in left us first false one two = two

left_few : (l : OwnedStream) (p free number : ℕ) (us : List AccessUnit) → length (left_at l p free number us).units ≤ length us
unfolding left_at
left_few l p free number [] = omega arith
left_few l p free number (u ∷ us) =
    let less = left_few l p (end_slot l free u) (number + packet_count l u) us in
    left_in (left_at l p (end_slot l free u) (number + packet_count l u) us) (u ∷ us) (record { free = free; number = number; units = u ∷ us })
    (nat_lt p (end_slot l free u))
    (omega arith) (omega (arith, less))

not_full : (l : OwnedStream) (slots capacity : ℕ) (us : List AccessUnit) → length us < capacity → is_full l slots capacity us ≡ false
not_full l slots capacity us lt =
    let few = left_few l (own_before l.own slots) 0 0 us in lt-leb capacity (length (left_before l slots us).units) (omega (arith, few, lt))

cause_same_in : (d : Scheduled) (few many : ℕ) (fed : List (ℕ × AccessUnit)) (entry : ℕ × AccessUnit) (o : Option DescribedStream) →
    length (units_of entry.0 fed) < few → length (units_of entry.0 fed) < many →
    feed_cause d (Units few) (job_history fed 0) entry.0 entry.1 o ≡ feed_cause d (Units many) (job_history fed 0) entry.0 entry.1 o
unfolding feed_cause
cause_same_in d few many fed entry None one two = refl
cause_same_in d few many fed entry (Some s) one two =
    let l = owned_stream d entry.0 s in
    let us = units_of entry.0 fed in
    ap (λ (full : Bool). if_on_air (stream_on_air d.description entry.0)
    (first_cause l.parameters.size l.parameters.pts_limit (min_next_dts_of l us) (is_late l 0 entry.1) full (over_cause l us entry.1) entry.1))
    (not_full l 0 few us one ∙ sym (not_full l 0 many us two))

refused_same : (d : Scheduled) (few many : ℕ) (fed rest : List (ℕ × AccessUnit)) →
    ((k : ℕ) → length (units_of k (fed ++ rest)) ≤ few) → ((k : ℕ) → length (units_of k (fed ++ rest)) ≤ many) →
    first_refused d (Units few) fed rest ≡ first_refused d (Units many) fed rest
unfolding first_refused
refused_same d few many fed [] one two = refl
refused_same d few many fed (entry ∷ rest) one two =
    let more : length (units_of entry.0 (fed ++ (entry ∷ rest))) ≡ length (units_of entry.0 fed) + suc (length (units_of entry.0 rest)) =
    ap (length {A = AccessUnit}) (units_append entry.0 fed (entry ∷ rest)) ∙ length-append (units_of entry.0 fed) (units_of entry.0 (entry ∷ rest))
    ∙ ap (λ (us : List AccessUnit). length (units_of entry.0 fed) + length us) (own_units entry.0 entry rest refl) in
    let again = append_assoc fed (entry ∷ []) rest in
    ap (λ (cause : Option FeedError). or_cause (unit_refused (length fed) cause) (first_refused d (Units few) (fed ++ (entry ∷ [])) rest))
    (cause_same_in d few many fed entry (slice_get d.description.streams entry.0) (omega (arith, more, one entry.0)) (omega (arith, more, two entry.0)))
    ∙ ap (λ (next : Option MuxError). or_cause (unit_refused (length fed) (cause_after d (Units many) fed entry)) next)
    (refused_same d few many (fed ++ (entry ∷ [])) rest
    (λ k. subst (λ (all : List (ℕ × AccessUnit)). length (units_of k all) ≤ few) (sym again) (one k))
    (λ k. subst (λ (all : List (ℕ × AccessUnit)). length (units_of k all) ≤ many) (sym again) (two k)))

pub room_for_all : RoomForAll
room_for_all d units = elim (cases_lt (max_stream_units units) 1048576) [
  | inl less ↦ refused_same d room 1048576 [] units
      (λ k. let bound = most_bounds k units in omega (arith, bound, less)) (λ k. let bound = most_bounds k units in omega (arith, bound, less))
  | inr more ↦ (let same : room ≡ 1048576 = omega (arith, more) in ap (λ (n : ℕ). first_refused d (Units n) [] units) same)
]
  where
    room : ℕ
    room = min (max 1 (max_stream_units units)) 1048576
