-- A video stream over one plan, and over two plans in turn
use Rattle.std.proofs.Common.{◌≡◌, ℕ, zero, suc, ◌+◌, ◌*◌, ◌/◌, ◌<◌, ◌≤◌, max, Bool, cond, nat_le, nat_lt, ◌&&◌, List, [], ◌∷◌, ◌++◌, length, take, drop, map}
use Rattle.std.proofs.Common.{replicate, refl, ap, ◌∙◌, sym, subst, inl, inr, arith}
use Rattle.std.proofs.Math.Nat.{le_trans, mul-le-mul_left, mul-le-mul_right, mul-pos}
use Rattle.std.proofs.lemmas.Bool.{cases_lt, lt-ltb, le-ltb}
use Rattle.std.proofs.lemmas.List.{length-map, length-append, length-replicate, length-drop}
use Rattle.std.proofs.lemmas.List.Sums.{sum_by-cons}
use Rattle.clock27.specs.Arrival.{arrivals}
use Rattle.clock27.specs.Departure.{departures}
use Rattle.clock27.specs.Fullness.{is_in_buffer, fullness}
use Rattle.clock27.proofs.Scale.{departures-scale}
use Rattle.own_slots.specs.Slots.{own_slots}
use Rattle.own_slots.specs.Period.{own, per_period}
use Rattle.own_slots.specs.Spread.{most_within}
use Rattle.own_slots.specs.Work.{BoundsWork}
use Rattle.own_slots.proofs.PositionLemmas.{per_period_le}
use Rattle.own_slots.proofs.Spread.{rate_law, share_law}
use Rattle.own_slots.proofs.WorkLemmas.{work_law, switch_work_law}
use Rattle.unit_timing.specs.PesPacket.{PesPacket, packets_of_unit, Spaced}
use Rattle.unit_timing.specs.Schedule.{first_slot, packets_in_slots}
use Rattle.unit_timing.specs.Transport.{slots_of, NoneLeavesEarly}
use Rattle.unit_timing.specs.Deadline.{InTime}
use Rattle.unit_timing.specs.MainBuffer.{is_in_main_buffer, mb_fullness}
use Rattle.unit_timing.specs.VideoBuffers.{multiplexing_entered, multiplexing_left}
use Rattle.unit_timing.specs.LeakMethod.{transfers, rooms_of, removed_at, NeverFalls}
use Rattle.unit_timing.specs.Plans.{Declaration, KeepsDeclaration, run_packets}
use Rattle.unit_timing.specs.Conditions.{IsProper, StreamClaim, waiting_slots}
use Rattle.unit_timing.specs.PlanLaws.{in_turn}
use Rattle.unit_timing.specs.VideoPlans.{Leak, LeakClaim, IsProperLeak, drained, VideoServed, VideoLaw, VideoSwitchLaw}
use Rattle.unit_timing.proofs.TransportBuffer.{transport_room}
use Rattle.unit_timing.proofs.PacketsInSlots.{rising_run}
use Rattle.unit_timing.proofs.MainBufferBytes.{kept}
use Rattle.unit_timing.proofs.MomentLemmas.{main_moments}
use Rattle.unit_timing.proofs.NotEarly.{none_leaves_early_law, small_packets, unit_parts}
use Rattle.unit_timing.proofs.PlanLemmas.{some_slots, main_fits, in_time, deadline_switch_law, main_switch_law}
use Rattle.unit_timing.proofs.Thinning.{falls_from, payload_rises}
use Rattle.unit_timing.proofs.ByteByByte.{departures_later, leaves_later}
use Rattle.unit_timing.proofs.SlowLeaks.{slow_leak_law}
use Rattle.unit_timing.proofs.MultiplexingLemmas.{multiplexing_law, whole_in_time_law}
use Rattle.unit_timing.proofs.LeakMethodLemmas.{never_full_law}

-- ---- No byte enters MB or EB before its packet's slot begins

entered_early : (own : ℕ → Bool) (rate lead rx rbx n : ℕ) (units : List PesPacket) →
    NoneLeavesEarly (rx * rbx) (packets_in_slots own rate lead 0 units (own_slots own 0 n))
    (multiplexing_entered rate rx rbx (packets_in_slots own rate lead 0 units (own_slots own 0 n)))
entered_early own rate lead rx rbx n units =
    none_leaves_early_law.model (rbx * rate) (rx * rbx) 0 (packets_in_slots own rate lead 0 units (own_slots own 0 n))
    (small_packets own rate lead 0 units (own_slots own 0 n))

leaked_early : (own : ℕ → Bool) (rate lead rx rbx n : ℕ) (units : List PesPacket) →
    NoneLeavesEarly (rx * rbx) (packets_in_slots own rate lead 0 units (own_slots own 0 n))
    (multiplexing_left rate rx rbx (packets_in_slots own rate lead 0 units (own_slots own 0 n)))
leaked_early own rate lead rx rbx n units =
    let packets = packets_in_slots own rate lead 0 units (own_slots own 0 n) in
    let entered = multiplexing_entered rate rx rbx packets in
    leaves_later (rx * rbx) packets entered (multiplexing_left rate rx rbx packets) (departures_later (rx * rate) 0 entered)
    (entered_early own rate lead rx rbx n units)

-- ---- EB is never full

-- On a scale with whole stamps, both buffers together are a buffer whose bytes leave at their stamps.
before_stamp : (x due rate r : ℕ) → nat_lt x (due * rate * r) ≡ nat_lt (x * 720000) (due * (720000 * rate) * r)
before_stamp x due rate r =
    let same : due * (720000 * rate) * r ≡ due * rate * r * 720000 = omega arith in
    elim (cases_lt x (due * rate * r)) [
      | inl less ↦ lt-ltb x (due * rate * r) less ∙ sym (lt-ltb (x * 720000) (due * (720000 * rate) * r) (omega (arith, same, less)))
      | inr le ↦ le-ltb x (due * rate * r) le ∙ sym (le-ltb (x * 720000) (due * (720000 * rate) * r) (omega (arith, same, le)))
    ]

of_unit : (x due rate r n : ℕ) (us rest : List ℕ) →
    fullness x us (replicate n (due * rate * r) ++ rest) ≡ kept (720000 * rate) r x due (take n us) + fullness x (drop n us) rest
unfolding fullness kept
of_unit x due rate r zero us rest = omega arith
of_unit x due rate r (suc n) [] rest = omega arith
of_unit x due rate r (suc n) (u ∷ us) rest =
    let one : (let k : ℕ = cond (is_in_buffer x u (due * rate * r)) 1 0 in k) ≡ (let k : ℕ = cond (is_in_main_buffer (720000 * rate) r x due u) 1 0 in k) =
    ap (λ (b : Bool). let k : ℕ = cond (nat_le u x && b) 1 0 in k) (before_stamp x due rate r) in
    omega (arith, one, of_unit x due rate r n us rest, sum_by-cons (λ d. cond (is_in_main_buffer (720000 * rate) r x due d) 1 0) u (take n us))

of_units : (x rate r : ℕ) (units : List PesPacket) (us : List ℕ) → fullness x us (removed_at rate r units) ≡ mb_fullness (720000 * rate) r x units us
unfolding removed_at mb_fullness kept
of_units x rate r [] us = nothing us
  where
    nothing : (us : List ℕ) → fullness x us [] ≡ 0
    nothing [] = unfold fullness in refl
    nothing (u ∷ us) = unfold fullness in refl
of_units x rate r (unit ∷ units) us =
    of_unit x unit.dts rate r unit.size us (removed_at rate r units)
    ∙ ap (λ (k : ℕ). kept (720000 * rate) r x unit.dts (take unit.size us) + k) (of_units x rate r units (drop unit.size us))

-- Stamps never fall.
same_removed : (low time n : ℕ) (rest : List ℕ) → low ≤ time → NeverFalls time rest → NeverFalls low (replicate n time ++ rest)
unfolding NeverFalls
same_removed low time zero rest le falls = falls_from low time rest le falls
same_removed low time (suc n) rest le falls = (le, same_removed time time n rest (omega arith) falls)

removed_falls : (apart from low rate r : ℕ) (units : List PesPacket) → low ≤ from * rate * r → Spaced apart from units →
    NeverFalls low (removed_at rate r units)
unfolding Spaced removed_at
removed_falls apart from low rate r [] le spaced = unfold NeverFalls in tt
removed_falls apart from low rate r (unit ∷ units) le spaced =
    let here : low ≤ unit.dts * rate * r = omega (arith, le, mul-le-mul_right (rate * r) spaced.0) in
    let next : unit.dts * rate * r ≤ (unit.dts + apart) * rate * r = omega arith in
    same_removed low (unit.dts * rate * r) unit.size (removed_at rate r units) here
    (removed_falls apart (unit.dts + apart) (unit.dts * rate * r) rate r units next spaced.1)

falls_scaled : (k from : ℕ) (ts : List ℕ) → NeverFalls from ts → NeverFalls (k * from) (map (λ t. k * t) ts)
unfolding NeverFalls
falls_scaled k from [] falls = tt
falls_scaled k from (t ∷ ts) falls = (mul-le-mul_left k falls.0, falls_scaled k t ts falls.1)

-- No more bytes of units are written than the units have.
few_bytes : (own : ℕ → Bool) (rate lead r n k : ℕ) (units : List PesPacket) (free : ℕ) (left : List ℕ) →
    NoneLeavesEarly r (packets_in_slots own rate lead free units (own_slots own 0 n)) left → length left ≤ length (removed_at rate k units)
unfolding packets_in_slots NoneLeavesEarly removed_at
few_bytes own rate lead r n k [] free left none = rw none (omega arith)
few_bytes own rate lead r n k (unit ∷ units) free left early =
    let b = first_slot own rate lead free unit in
    let p = packets_of_unit unit in
    let parts = unit_parts own rate lead r n b p unit.front unit.size units left (omega arith) early in
    let rest = few_bytes own rate lead r n k units (b + p) (drop unit.size left) parts.1 in
    rw (length-append (replicate unit.size (unit.dts * rate * k)) (removed_at rate k units), length-replicate unit.size (unit.dts * rate * k))
    (omega (arith, rest, length-drop unit.size left))

-- Bytes on a scale with whole stamps
leave : (k step : ℕ) (ts : List ℕ) → departures (k * step) 0 (map (λ t. k * t) ts) ≡ map (λ t. k * t) (departures step 0 ts)
leave k step ts =
    let none : k * 0 ≡ 0 = omega arith in
    subst (λ (prev : ℕ). departures (k * step) prev (map (λ t. k * t) ts) ≡ map (λ t. k * t) (departures step 0 ts)) none (departures-scale k step 0 ts)

freely : (rate r step size apart from : ℕ) (units : List PesPacket) (left : List ℕ) → NeverFalls 0 left → Spaced apart from units →
    length left ≤ length (removed_at rate r units) → ((x : ℕ) → mb_fullness rate r x units left ≤ size) →
    transfers (720000 * step) 0 (map (λ t. 720000 * t) left) (rooms_of size (removed_at rate r units)) ≡ map (λ d. 720000 * d) (departures step 0 left)
freely rate r step size apart from units left falls spaced few fits =
    let fine = map (λ t. 720000 * t) left in
    let rising : NeverFalls 0 (map (λ t. 720000 * t) left) = falls_scaled 720000 0 left falls in
    let long : length (map (λ t. 720000 * t) left) ≤ length (removed_at rate r units) = rw (length-map left (λ t. 720000 * t)) few in
    never_full_law (720000 * step) size fine (removed_at rate r units) rising (removed_falls apart from 0 rate r units (omega arith) spaced) long
    (λ x. rw (of_units x rate r units fine) (le_trans (main_moments 720000 rate r x units left (omega arith)) (fits (x / 720000))))
    ∙ leave 720000 step left

-- ---- The promises for a video stream

keeps_drained : (s : Declaration) (r : ℕ) (units : List PesPacket) → KeepsDeclaration s units → KeepsDeclaration (drained s r) units
keeps_drained s r units keeps = record { spaced = keeps.spaced; sized = keeps.sized; allowed = keeps.allowed }

proper_drained : (rate : ℕ) (s : Declaration) (r : ℕ) → IsProper rate s → 0 < r → IsProper rate (drained s r)
proper_drained rate s r proper some = record {
  some_rate = proper.some_rate;
  some_interval = proper.some_interval;
  some_lead = proper.some_lead;
  some_drain = some;
  some_rows = proper.some_rows;
}

video_served : (rate : ℕ) (s : Declaration) (m : Leak) (own : ℕ → Bool) (peak leak_peak : ℕ) (W V : ℕ → ℕ) (units : List PesPacket) →
    IsProper rate s → IsProperLeak s m →
    KeepsDeclaration s units → BoundsWork own rate s.drain 512 peak W → BoundsWork own rate m.rbx m.mb leak_peak V →
    InTime own rate s.lead m.rbx (leak_peak + rate) 0 units →
    ((n x : ℕ) (left : List ℕ) → NoneLeavesEarly (s.drain * m.rbx) (run_packets own rate s units n) left →
    mb_fullness rate (s.drain * m.rbx) x units left ≤ s.main) →
    VideoServed own rate s m units
video_served rate s m own peak leak_peak W V units proper leak keeps work leak_work soon fits = record {
  transport = λ n x. transport_room own rate s.drain 512 peak W (slots_of (run_packets own rate s units n)) x proper.some_rate work
      (rising_run own rate s.lead n units);
  multiplexing = λ n x. multiplexing_law own rate s.drain m.rbx m.mb leak_peak V (run_packets own rate s units n) x proper.some_rate proper.some_drain
      leak.no_faster leak_work (rising_run own rate s.lead n units);
  some_multiplexing = λ slow packets x fast no_faster rounded small rises. slow_leak_law own rate s.drain m.rbx slow m.mb leak_peak V packets x fast
      proper.some_drain leak.no_faster no_faster rounded small leak_work rises;
  elementary = λ n x. fits n x (multiplexing_left rate s.drain m.rbx (run_packets own rate s units n)) (leaked_early own rate s.lead s.drain m.rbx n units);
  together = λ n x. fits n x (multiplexing_entered rate s.drain m.rbx (run_packets own rate s units n)) (entered_early own rate s.lead s.drain m.rbx n units);
  never_full = λ n. freely rate (s.drain * m.rbx) (s.drain * rate) s.main s.interval s.lead units
      (multiplexing_entered rate s.drain m.rbx (run_packets own rate s units n))
      (payload_rises (m.rbx * rate) (run_packets own rate s units n) (arrivals (s.drain * m.rbx) (slots_of (run_packets own rate s units n))))
      keeps.spaced
      (few_bytes own rate s.lead (s.drain * m.rbx) n (s.drain * m.rbx) units 0 (multiplexing_entered rate s.drain m.rbx (run_packets own rate s units n))
      (entered_early own rate s.lead s.drain m.rbx n units))
      (λ x. fits n x (multiplexing_entered rate s.drain m.rbx (run_packets own rate s units n)) (entered_early own rate s.lead s.drain m.rbx n units));
  whole = λ n. whole_in_time_law own rate s.lead s.drain m.rbx m.mb leak_peak V units n leak.some_leak leak.no_faster leak_work soon;
}

some_scale : (s : Declaration) (m : Leak) → 0 < s.drain → IsProperLeak s m → 0 < s.drain * m.rbx
some_scale s m some leak = mul-pos some leak.some_leak

pub video_law : VideoLaw
video_law rate s m claim leak marks units proper leaks holds keeps =
    let some : 0 < length marks = omega (arith, holds.owned, per_period_le marks) in
    let scaled = proper_drained rate s (s.drain * m.rbx) proper (some_scale s m proper.some_drain leaks) in
    video_served rate s m (own marks) claim.peak leak.peak _ _ units proper leaks keeps
    (work_law rate s.drain 512 claim.start claim.peak marks some holds.transport)
    (work_law rate m.rbx m.mb leak.start leak.peak marks some holds.multiplexing)
    (in_time rate (drained s m.rbx) (own marks) (per_period marks) (length marks) claim.spread (leak.peak + rate) units proper.some_rows proper.some_interval
    (rate_law marks claim.spread holds.owned holds.spread_claimed) holds.owned holds.rate_serves holds.lead_serves (keeps_drained s m.rbx units keeps))
    (λ n x left. main_fits rate (drained s (s.drain * m.rbx)) (own marks)
    (most_within (per_period marks) (length marks) claim.spread (waiting_slots rate s)) units n x left scaled
    (keeps_drained s (s.drain * m.rbx) units keeps)
    (share_law marks claim.spread (waiting_slots rate s) holds.owned holds.spread_claimed (some_slots rate s proper.some_rate proper.some_lead))
    holds.elementary_fits)

-- A claim on the stream's own slots; the lead pays for the way through MB
abbrev through : ℕ → StreamClaim → LeakClaim → StreamClaim
through rate claim leak = record { spread = claim.spread; start = leak.start; peak = leak.peak + rate }

pub video_switch_law : VideoSwitchLaw
video_switch_law rate s m claim leak first next next_leak second periods units proper leaks one two joins keeps =
    let some : 0 < length first = omega (arith, one.owned, per_period_le first) in
    let some' : 0 < length second = omega (arith, two.owned, per_period_le second) in
    let scaled = proper_drained rate s (s.drain * m.rbx) proper (some_scale s m proper.some_drain leaks) in
    let late : max (leak.peak + rate) (next_leak.peak + rate) ≡ max leak.peak next_leak.peak + rate = omega arith in
    video_served rate s m (in_turn first periods second) (max claim.peak next.peak) (max leak.peak next_leak.peak) _ _ units proper leaks keeps
    (switch_work_law rate s.drain 512 claim.start claim.peak first next.start next.peak second periods some some' one.transport two.transport joins.transport)
    (switch_work_law rate m.rbx m.mb leak.start leak.peak first next_leak.start next_leak.peak second periods some some'
    one.multiplexing two.multiplexing joins.multiplexing)
    (subst (λ (l : ℕ). InTime (in_turn first periods second) rate s.lead m.rbx l 0 units) late
    (deadline_switch_law rate (drained s m.rbx) (through rate claim leak) first (through rate next next_leak) second periods units
    proper.some_rows proper.some_interval one.owned two.owned one.spread_claimed two.spread_claimed one.rate_serves two.rate_serves joins.lead_serves
    (keeps_drained s m.rbx units keeps)))
    (λ n x left. main_switch_law rate (drained s (s.drain * m.rbx)) claim first next second periods units n x left scaled
    one.owned two.owned one.spread_claimed two.spread_claimed joins.elementary_fits (keeps_drained s (s.drain * m.rbx) units keeps))
