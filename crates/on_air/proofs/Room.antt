-- The number of waiting units: the units that are due after the next slot begins
use Rattle.std.proofs.Common.{◌≡◌, ℕ, suc, ◌+◌, ◌-◌, ◌*◌, ◌<◌, ◌≤◌, min, max, Bool, List, [], ◌∷◌, ◌++◌, length, map, take, drop, refl, ◌∙◌, inl, inr, arith, All}
use Rattle.std.specs.Int.{div_ceil}
use Rattle.std.proofs.Math.Nat.{mul-le-mul_right, mul-le-mul_left}
use Rattle.std.proofs.lemmas.Grind.{div_ceil_times}
use Rattle.std.proofs.lemmas.Bool.{cases_lt}
use Rattle.std.proofs.lemmas.List.{length-append, length-take, length-drop}
use Rattle.std.proofs.lemmas.List.Elements.{All-head, All-tail}
use Rattle.clock27.specs.Arrival.{arrivals}
use Rattle.clock27.specs.Departure.{last_left}
use Rattle.own_slots.specs.Slots.{own_before, own_slots}
use Rattle.pes_packet.specs.AccessUnits.{AccessUnit}
use Rattle.unit_timing.specs.PesPacket.{PesPacket, packets_of_unit, Spaced}
use Rattle.unit_timing.specs.Allowances.{pace_curve, Allows, Runs}
use Rattle.unit_timing.specs.declared.allowance.Allowance.TheVariants.{Pace}
use Rattle.unit_timing.proofs.Allowing.{allowance_law}
use Rattle.unit_timing.specs.Schedule.{first_slot as first_own_slot, cut, packets_in_slots}
use Rattle.unit_timing.specs.Transport.{of_payloads, pes_left}
use Rattle.unit_timing.specs.Arrived.{AllLeft}
use Rattle.unit_timing.proofs.ArrivalLemmas.{length-run, after_unit}
use Rattle.unit_timing.proofs.PacketsInSlots.{slots_of-cut, pes_left-append, length-left-cut, sent_nothing}
use Rattle.unit_queue.specs.OwnedStreams.{OwnedStream, timed, packet_count, first_slot, end_slot}
use Rattle.unit_queue.specs.Places.{left_at}
use Rattle.unit_queue.proofs.Leftover.{text_some, left_stop, left_on}

-- Bounds the number of units that are at least `interval` apart and due from `from` to `last`
few : (l : OwnedStream) (interval from last : ℕ) (us : List AccessUnit) → Spaced interval from (map (timed l) us) → All (λ u. u.dts ≤ last) us →
    from ≤ last + interval → from + length us * interval ≤ last + interval
unfolding Spaced
few l interval from last [] spaced all le = omega (arith, le)
few l interval from last (u ∷ us) spaced all le =
    let first : u.dts ≤ last = All-head (λ x. x.dts ≤ last) u us all in
    let rest = few l interval (u.dts + interval) last us spaced.1 (All-tail (λ x. x.dts ≤ last) u us all) (omega (arith, first)) in
    omega (arith, spaced.0, rest)

-- The departures of a unit's packets, followed by the departures of later units
joined : (own : ℕ → Bool) (rate lead r n free prev : ℕ) (unit : PesPacket) (units : List PesPacket) →
    pes_left rate r prev (packets_in_slots own rate lead free (unit ∷ units) (own_slots own 0 n))
    ≡ pes_left rate r prev (cut unit.front unit.size (take (packets_of_unit unit) (drop (first_own_slot own rate lead free unit) (own_slots own 0 n))))
    ++ pes_left rate r (last_left rate prev (arrivals r (take (packets_of_unit unit) (drop (first_own_slot own rate lead free unit) (own_slots own 0 n)))))
    (packets_in_slots own rate lead (first_own_slot own rate lead free unit + packets_of_unit unit) units (own_slots own 0 n))
unfolding packets_in_slots
joined own rate lead r n free prev unit units =
    let slots = own_slots own 0 n in
    let b = first_own_slot own rate lead free unit in
    let p = packets_of_unit unit in
    let xs = take p (drop b slots) in
    pes_left-append rate r prev (cut unit.front unit.size xs) (packets_in_slots own rate lead (b + p) units slots)
    ∙ rw (slots_of-cut unit.front unit.size xs) refl

-- A unit that is not sent whole is not due.
unfinished : (own : ℕ → Bool) (rate lead r n free prev : ℕ) (unit : PesPacket) (units : List PesPacket) → 1 ≤ unit.size →
    own_before own n < first_own_slot own rate lead free unit + packets_of_unit unit →
    unit.size ≤ length (pes_left rate r prev (packets_in_slots own rate lead free (unit ∷ units) (own_slots own 0 n))) → ⊥
unfinished own rate lead r n free prev unit units some below there =
    let slots = own_slots own 0 n in
    let b = first_own_slot own rate lead free unit in
    let p = packets_of_unit unit in
    let xs = take p (drop b slots) in
    let next = last_left rate prev (arrivals r xs) in
    let run = length-run own n in
    let nothing : pes_left rate r next (packets_in_slots own rate lead (b + p) units slots) ≡ [] =
    rw (sent_nothing own rate lead (b + p) units slots (omega (arith, run, below))) (unfold of_payloads in refl) in
    let many : length (pes_left rate r prev (cut unit.front unit.size xs)) ≡ min unit.size (184 * min p (length slots - b) - unit.front) =
    rw (length-left-cut rate r unit.front unit.size prev xs, length-take p (drop b slots), length-drop b slots) refl in
    let whole = rw (joined own rate lead r n free prev unit units, nothing, length-append (pes_left rate r prev (cut unit.front unit.size xs)) []) at there in
    omega (arith, whole, many, run, below, some)

-- The units that wait before the next slot are the last ones, if the slots before it begin no earlier than `lead` before the last due unit; and the first
-- of them is due after `last - lead`. So they are as few as such units may be.
waiting_few : (l : OwnedStream) (r n lead last bound : ℕ) (Keeps : List AccessUnit → Type 0) → (last - lead) * l.parameters.rate ≤ n * 135360000 →
    ((u : AccessUnit) (us : List AccessUnit) → Keeps (u ∷ us) → Keeps us) →
    ((u : AccessUnit) (us : List AccessUnit) → Keeps (u ∷ us) → last - lead < u.dts → All (λ x. x.dts ≤ last) (u ∷ us) → length (u ∷ us) ≤ bound) →
    (us : List AccessUnit) (free number prev : ℕ) → Keeps us → All (λ u. u.dts ≤ last) us →
    AllLeft l.parameters.rate r n (map (timed l) us)
    (pes_left l.parameters.rate r prev (packets_in_slots l.own l.parameters.rate l.parameters.lead free (map (timed l) us) (own_slots l.own 0 n))) →
    length (left_at l (own_before l.own n) free number us).units ≤ bound
unfolding AllLeft
waiting_few l r n lead last bound Keeps begins more few [] free number prev keeps all left = unfold left_at in omega arith
waiting_few l r n lead last bound Keeps begins more few (u ∷ us) free number prev keeps all left =
    let own = l.own in
    let rate = l.parameters.rate in
    let unit = timed l u in
    let units = map (timed l) us in
    let begin : first_slot l free u ≡ first_own_slot own rate l.parameters.lead free unit = unfold first_slot in refl in
    elim (cases_lt (own_before own n) (end_slot l free u)) [
      | inl stop ↦
          let late : n * 135360000 < u.dts * rate = elim (cases_lt (n * 135360000) (u.dts * rate)) [
            | inl late ↦ late
            | inr due ↦ absurd (unfinished own rate l.parameters.lead r n free prev unit units (omega (arith, text_some l u)) (rw begin at stop) (left.0 due).0)
          ] in
          let above : last - lead < u.dts = elim (cases_lt (last - lead) u.dts) [
            | inl above ↦ above
            | inr below ↦ absurd (omega (arith, late, begins, mul-le-mul_right rate below))
          ] in
          rw (left_stop l (own_before own n) free number u us stop) (few u us keeps above all)
      | inr on ↦ rw (left_on l (own_before own n) free number u us on)
          (waiting_few l r n lead last bound Keeps begins more few us (end_slot l free u) (number + packet_count l u)
          (last_left rate prev (arrivals r (take (packets_of_unit unit) (drop (first_own_slot own rate l.parameters.lead free unit) (own_slots own 0 n)))))
          (more u us keeps) (All-tail (λ x. x.dts ≤ last) u us all)
          (rw begin
          (rw (
            joined own rate l.parameters.lead r n free prev unit units,
            after_unit own rate l.parameters.lead r n (first_own_slot own rate l.parameters.lead free unit) (packets_of_unit unit) unit.front unit.size prev _
                units (omega arith),
          ) at left.1)))
    ]

-- Units that are at least an interval apart

record IsSpaced (l : OwnedStream) (interval : ℕ) (us : List AccessUnit) : Type 0 where
  from : ℕ
  spaced : Spaced interval from (map (timed l) us)

later_spaced : (l : OwnedStream) (interval : ℕ) (u : AccessUnit) (us : List AccessUnit) → IsSpaced l interval (u ∷ us) → IsSpaced l interval us
unfolding Spaced
later_spaced l interval u us keeps = record { from = u.dts + interval; spaced = keeps.spaced.1 }

few_enough : (n interval least lead : ℕ) → 1 ≤ least → least ≤ interval → suc n * interval < lead + interval → n < div_ceil lead least
few_enough n interval least lead some le below =
    let wide : n * least ≤ n * interval = mul-le-mul_left n le in
    let bounds = div_ceil_times lead least (omega (arith, some)) in
    elim (cases_lt n (div_ceil lead least)) [
      | inl lt ↦ lt
      | inr over ↦ absurd (omega (arith, wide, below, bounds.0, mul-le-mul_right least over))
    ]

few_spaced : (l : OwnedStream) (interval lead last : ℕ) → 1 ≤ interval → (u : AccessUnit) (us : List AccessUnit) → IsSpaced l interval (u ∷ us) →
    last - lead < u.dts → All (λ x. x.dts ≤ last) (u ∷ us) → length (u ∷ us) ≤ div_ceil lead (max interval 1)
unfolding Spaced
few_spaced l interval lead last some u us keeps above all =
    let first : u.dts ≤ last = All-head (λ x. x.dts ≤ last) u us all in
    let after : u.dts + interval + length us * interval ≤ last + interval =
    few l interval (u.dts + interval) last us keeps.spaced.1 (All-tail (λ x. x.dts ≤ last) u us all) (omega (arith, first)) in
    let wide : suc (length us) * interval < lead + interval = omega (arith, above, after) in
    let less = few_enough (length us) interval (max interval 1) lead (omega arith) (omega (arith, some)) wide in
    omega (arith, less)

pub waiting_spaced : (l : OwnedStream) (r n lead last interval : ℕ) → 1 ≤ interval → (last - lead) * l.parameters.rate ≤ n * 135360000 →
    (us : List AccessUnit) (free number prev from : ℕ) → Spaced interval from (map (timed l) us) → All (λ u. u.dts ≤ last) us →
    AllLeft l.parameters.rate r n (map (timed l) us)
    (pes_left l.parameters.rate r prev (packets_in_slots l.own l.parameters.rate l.parameters.lead free (map (timed l) us) (own_slots l.own 0 n))) →
    length (left_at l (own_before l.own n) free number us).units ≤ div_ceil lead (max interval 1)
waiting_spaced l r n lead last interval some begins us free number prev from spaced all left =
    waiting_few l r n lead last (div_ceil lead (max interval 1)) (IsSpaced l interval) begins (later_spaced l interval) (few_spaced l interval lead last some) us
    free number prev (record { from = from; spaced = spaced }) all left

-- Units within a pace

abbrev IsPaced : OwnedStream → ℕ → ℕ → List AccessUnit → Type 0
IsPaced l burst pace us = Allows packets_of_unit (pace_curve burst pace) (map (timed l) us)

later_paced : (l : OwnedStream) (burst pace : ℕ) (u : AccessUnit) (us : List AccessUnit) → IsPaced l burst pace (u ∷ us) → IsPaced l burst pace us
unfolding Allows
later_paced l burst pace u us keeps = keeps.1

-- Each unit has a packet, so there are no more units than packets.
few_packets : (l : OwnedStream) (burst pace lead first last sent : ℕ) (u : AccessUnit) (us : List AccessUnit) → last ≤ first + lead →
    Runs packets_of_unit (pace_curve burst pace) first sent (map (timed l) (u ∷ us)) → All (λ x. x.dts ≤ last) (u ∷ us) →
    sent + length (u ∷ us) ≤ pace_curve burst pace lead
unfolding Runs
few_packets l burst pace lead first last sent u [] near runs all =
    let due : u.dts ≤ last = All-head (λ x. x.dts ≤ last) u [] all in
    let rises = allowance_law.rises (Pace burst pace) 1 1 (omega arith) (omega arith) (u.dts - first) lead (omega (arith, due, near)) in
    omega (arith, runs.0, rises, text_some l u)
few_packets l burst pace lead first last sent u (v ∷ us) near runs all =
    let rest = few_packets l burst pace lead first last (sent + packets_of_unit (timed l u)) v us near runs.1 (All-tail (λ x. x.dts ≤ last) u (v ∷ us) all) in
    omega (arith, rest, text_some l u)

few_paced : (l : OwnedStream) (burst pace lead last : ℕ) (u : AccessUnit) (us : List AccessUnit) → IsPaced l burst pace (u ∷ us) → last - lead < u.dts →
    All (λ x. x.dts ≤ last) (u ∷ us) → length (u ∷ us) ≤ pace_curve burst pace lead
unfolding Allows
few_paced l burst pace lead last u us keeps above all =
    let packets = few_packets l burst pace lead u.dts last 0 u us (omega (arith, above)) keeps.0 all in
    omega (arith, packets)

pub waiting_paced : (l : OwnedStream) (r n lead last burst pace : ℕ) → (last - lead) * l.parameters.rate ≤ n * 135360000 →
    (us : List AccessUnit) (free number prev : ℕ) → Allows packets_of_unit (pace_curve burst pace) (map (timed l) us) → All (λ u. u.dts ≤ last) us →
    AllLeft l.parameters.rate r n (map (timed l) us)
    (pes_left l.parameters.rate r prev (packets_in_slots l.own l.parameters.rate l.parameters.lead free (map (timed l) us) (own_slots l.own 0 n))) →
    length (left_at l (own_before l.own n) free number us).units ≤ pace_curve burst pace lead
waiting_paced l r n lead last burst pace begins us free number prev paced all left =
    waiting_few l r n lead last (pace_curve burst pace lead) (IsPaced l burst pace) begins (later_paced l burst pace) (few_paced l burst pace lead last) us
    free number prev paced all left
