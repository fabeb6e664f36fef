-- The multiplexing buffer, if the elementary stream buffer is never full
use Rattle.std.proofs.Common.{◌≡◌, ℕ, zero, suc, ◌+◌, ◌-◌, ◌*◌, ◌≤◌, List, [], ◌∷◌, take, drop, map, refl, ap, ◌∙◌, subst, arith, All}
use Rattle.std.proofs.Math.Nat.{le_trans, mul-le-mul_left, mul-le-mul_right, mul-pos}
use Rattle.std.proofs.lemmas.List.{length-map, drop-map}
use Rattle.std.proofs.lemmas.List.Elements.{All-nil, All-cons, All-head, All-tail, All-weaker, All-map}
use Rattle.clock27.specs.Arrival.{arrivals}
use Rattle.clock27.specs.Departure.{departures}
use Rattle.clock27.proofs.Fullness.{room_law}
use Rattle.clock27.proofs.Tandem.{tandem_law, second_law}
use Rattle.own_slots.specs.Slots.{own_slots}
use Rattle.own_slots.proofs.WorkLemmas.{work_scale_law}
use Rattle.unit_timing.specs.PesPacket.{PesPacket}
use Rattle.unit_timing.specs.Schedule.{Packet, packets_in_slots}
use Rattle.unit_timing.specs.Transport.{slots_of, of_payloads, pes_left}
use Rattle.unit_timing.specs.Arrived.{AllLeft}
use Rattle.unit_timing.specs.VideoBuffers.{multiplexing_entered, multiplexing_left, NoLater, MultiplexingLaw, LeakLaw, LeakedLaw, FastLeakLaw, WholeInTimeLaw}
use Rattle.unit_timing.proofs.TransportBuffer.{transport_room, left_law}
use Rattle.unit_timing.proofs.MomentLemmas.{left_scaled}
use Rattle.unit_timing.proofs.ArrivalLemmas.{AllLeftBefore, arrived_before}
use Rattle.unit_timing.proofs.ByteByByte.{no_later-length, no_later-drop, no_later-below}
use Rattle.unit_timing.proofs.Thinning.{payloads_map, payload_departures, payload_fullness, payload_stays}

-- ---- Room

pub multiplexing_law : MultiplexingLaw
multiplexing_law own rate rx rbx room peak W packets x pos some slower bounds rises =
    let ts = arrivals (rx * rbx) (slots_of packets) in
    le_trans (payload_fullness x (rx * rate) packets (departures (rbx * rate) 0 ts))
    (le_trans (second_law x (rbx * rate) (rx * rate) ts (mul-le-mul_right rate slower))
    (transport_room own (rx * rate) (rx * rbx) room (rx * peak) (λ s. rx * W s) (slots_of packets) (x - rbx * rate) (mul-pos some pos)
    (work_scale_law own rate rbx room peak rx W bounds) rises))

pub fast_leak_law : FastLeakLaw
fast_leak_law rate rx rbx packets x pos some faster =
    room_law x (rx * rate) 1 (multiplexing_entered rate rx rbx packets) (mul-pos some pos)
    (payload_stays (rbx * rate) (rx * rate) packets (arrivals (rx * rbx) (slots_of packets)) (mul-le-mul_right rate faster))

-- ---- Times

-- A byte leaves the slower second queue one byte's time of the first queue after it would leave the slower queue alone.
in_tandem : (rate rx rbx : ℕ) (packets : List Packet) → rbx ≤ rx →
    of_payloads packets (departures (rx * rate) 0 (departures (rbx * rate) 0 (arrivals (rx * rbx) (slots_of packets))))
    ≡ map (λ d. rx * d + rbx * rate) (pes_left rate rbx 0 packets)
in_tandem rate rx rbx packets slower =
    let ts = arrivals (rx * rbx) (slots_of packets) in
    ap (of_payloads packets) (tandem_law (rbx * rate) (rx * rate) ts (mul-le-mul_right rate slower))
    ∙ payloads_map (λ d. d + rbx * rate) packets (departures (rx * rate) 0 ts)
    ∙ ap (map (λ d. d + rbx * rate)) (left_scaled rx rate rbx packets)
    ∙ mapped (pes_left rate rbx 0 packets)
  where
    mapped : (ds : List ℕ) → map (λ d. d + rbx * rate) (map (λ d. rx * d) ds) ≡ map (λ d. rx * d + rbx * rate) ds
    mapped [] = refl
    mapped (d ∷ ds) = ap (λ l. (rx * d + rbx * rate) ∷ l) (mapped ds)

pub leak_law : LeakLaw
leak_law rate rx rbx packets slower =
    subst (λ (us : List ℕ). NoLater (multiplexing_left rate rx rbx packets) us) (in_tandem rate rx rbx packets slower)
    (payload_departures (rx * rate) packets (departures (rbx * rate) 0 (arrivals (rx * rbx) (slots_of packets))))

pub leaked_law : LeakedLaw
leaked_law own rate rx rbx room peak W packets e slower bounds rises before =
    let limit = rx * (188 * rbx * e + peak) + rbx * rate in
    no_later-below limit (multiplexing_left rate rx rbx packets) (map (λ d. rx * d + rbx * rate) (pes_left rate rbx 0 packets))
    (leak_law rate rx rbx packets slower)
    (All-map (λ d. d ≤ limit) (λ d. rx * d + rbx * rate) (pes_left rate rbx 0 packets)
    (All-weaker (λ d. d ≤ 188 * rbx * e + peak) (λ d. rx * d + rbx * rate ≤ limit) (λ d le. omega (arith, mul-le-mul_left rx le)) (pes_left rate rbx 0 packets)
    (left_law own rate rbx room peak W packets e bounds rises before)))

-- ---- Deadlines

-- If TB is drained at Rbx and a byte leaves it one byte's time before the stamp, the byte is in EB by the stamp.
by_stamp : (t d rx rbx rate due : ℕ) → rbx ≤ rx → t ≤ rx * d + rbx * rate → (d + rate) * 720000 ≤ due * rate * rbx → t * 720000 ≤ due * rate * (rx * rbx)
by_stamp t d rx rbx rate due slower le early = omega (arith, le, mul-le-mul_right (720000 * rate) slower, mul-le-mul_left rx early)

by_stamps : (k rx rbx rate due : ℕ) (ts ds : List ℕ) → rbx ≤ rx → NoLater ts (map (λ d. rx * d + rbx * rate) ds) →
    All (λ d. (d + rate) * 720000 ≤ due * rate * rbx) (take k ds) →
    All (λ t. t * 720000 ≤ due * rate * (rx * rbx)) (take k ts)
unfolding NoLater
by_stamps k rx rbx rate due [] ds slower le all = rw (nothing k) (All-nil (λ t. t * 720000 ≤ due * rate * (rx * rbx)))
  where
    nothing : (k : ℕ) → ◌≡◌ {A = List ℕ} (take k []) []
    nothing zero = refl
    nothing (suc k) = refl
by_stamps k rx rbx rate due (t ∷ ts) [] slower le all = absurd le
by_stamps zero rx rbx rate due (t ∷ ts) (d ∷ ds) slower le all = All-nil (λ t. t * 720000 ≤ due * rate * (rx * rbx))
by_stamps (suc k) rx rbx rate due (t ∷ ts) (d ∷ ds) slower le all =
    All-cons (λ t. t * 720000 ≤ due * rate * (rx * rbx)) t (take k ts)
    (by_stamp t d rx rbx rate due slower le.0 (All-head (λ d. (d + rate) * 720000 ≤ due * rate * rbx) d (take k ds) all))
    (by_stamps k rx rbx rate due ts ds slower le.1 (All-tail (λ d. (d + rate) * 720000 ≤ due * rate * rbx) d (take k ds) all))

all_in_time : (rate rx rbx n : ℕ) (units : List PesPacket) (ts ds : List ℕ) → rbx ≤ rx → NoLater ts (map (λ d. rx * d + rbx * rate) ds) →
    AllLeftBefore rate rate rbx n units ds → AllLeft rate (rx * rbx) n units ts
unfolding AllLeft AllLeftBefore
all_in_time rate rx rbx n [] ts ds slower le all = tt
all_in_time rate rx rbx n (unit ∷ units) ts ds slower le all = (
  (λ due. let there = all.0 due in (
    omega (arith, there.0, no_later-length ts (map (λ d. rx * d + rbx * rate) ds) le, length-map ds (λ d. rx * d + rbx * rate)),
    by_stamps unit.size rx rbx rate unit.dts ts ds slower le there.1,
  )),
  all_in_time rate rx rbx n units (drop unit.size ts) (drop unit.size ds) slower (rest le) all.1,
)
  where
    rest : NoLater ts (map (λ d. rx * d + rbx * rate) ds) → NoLater (drop unit.size ts) (map (λ d. rx * d + rbx * rate) (drop unit.size ds))
    rest le = rw (← drop-map (λ d. rx * d + rbx * rate) unit.size ds) (no_later-drop unit.size ts (map (λ d. rx * d + rbx * rate) ds) le)

pub whole_in_time_law : WholeInTimeLaw
whole_in_time_law own rate lead rx rbx room peak W units n pos slower bounds in_time =
    let packets = packets_in_slots own rate lead 0 units (own_slots own 0 n) in
    all_in_time rate rx rbx n units (multiplexing_left rate rx rbx packets) (pes_left rate rbx 0 packets) slower (leak_law rate rx rbx packets slower)
    (arrived_before own rate lead rbx room peak rate W units n pos bounds in_time)
