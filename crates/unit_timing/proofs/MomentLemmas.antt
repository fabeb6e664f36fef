-- What buffers hold at moments that are not whole numbers
use Rattle.std.proofs.Common.{◌≡◌, ℕ, Bool, true, false, nat_le, nat_lt, ◌&&◌, ◌+◌, ◌-◌, ◌*◌, ◌/◌, ◌<◌, ◌≤◌, cond, List, [], ◌∷◌, ◌++◌, map, take, drop, refl}
use Rattle.std.proofs.Common.{ap, ap₂, sym, subst, ◌∙◌, inl, inr, arith}
use Rattle.std.proofs.Math.Nat.{le_trans, mul-le-mul_left, mul-div-le, lt-mul-div-succ}
use Rattle.std.proofs.lemmas.Bool.{cases_lt, lt-ltb, le-ltb, le-leb, lt-leb, and_right}
use Rattle.std.proofs.lemmas.List.{map-append, take-map, drop-map}
use Rattle.std.proofs.lemmas.List.Sums.{sum_by-cons}
use Rattle.clock27.specs.Arrival.{arrivals}
use Rattle.clock27.specs.Departure.{departures}
use Rattle.clock27.specs.Fullness.{fullness}
use Rattle.clock27.proofs.Scale.{departures-scale, arrivals-scale, fullness-scale}
use Rattle.unit_timing.specs.Schedule.{Packet}
use Rattle.unit_timing.specs.Transport.{slots_of, of_payloads}
use Rattle.unit_timing.specs.MainBuffer.{is_in_main_buffer, mb_fullness}
use Rattle.unit_timing.specs.VideoBuffers.{multiplexing_entered, multiplexing_left}
use Rattle.unit_timing.specs.SystemBuffer.{system_arrivals, system_tb_left, bsys_left}
use Rattle.unit_timing.specs.FinerMoments.{TransportMoments, LeftScaled, MainMoments, MainWholeMoments, MainPeakMoments, MultiplexingMoments}
use Rattle.unit_timing.specs.FinerMoments.{SystemTransportMoments, SystemBufferMoments, multiplexing_entered_at, multiplexing_left_at, system_arrivals_at}
use Rattle.unit_timing.specs.FinerMoments.{system_tb_left_at, bsys_left_at}
use Rattle.unit_timing.proofs.MainBufferBytes.{kept}

-- ---- Queues

abbrev scaled : ℕ → List ℕ → List ℕ
scaled k ts = map (λ t. k * t) ts

leave : (k step : ℕ) (ts : List ℕ) → departures (k * step) 0 (scaled k ts) ≡ scaled k (departures step 0 ts)
leave k step ts =
    let none : k * 0 ≡ 0 = omega arith in
    subst (λ (prev : ℕ). departures (k * step) prev (scaled k ts) ≡ scaled k (departures step 0 ts)) none (departures-scale k step 0 ts)

arrive_and_leave : (k step r : ℕ) (slots : List ℕ) → departures (k * step) 0 (arrivals (k * r) slots) ≡ scaled k (departures step 0 (arrivals r slots))
arrive_and_leave k step r slots = ap (departures (k * step) 0) (arrivals-scale k r slots) ∙ leave k step (arrivals r slots)

at_moment : (x k : ℕ) (fine_ts fine_ds ts ds : List ℕ) → fine_ts ≡ scaled k ts → fine_ds ≡ scaled k ds → 0 < k →
    fullness x fine_ts fine_ds ≡ fullness (x / k) ts ds
at_moment x k fine_ts fine_ds ts ds come go pos = ap₂ (fullness x) come go ∙ fullness-scale x k ts ds pos

pub transport_moments : TransportMoments
transport_moments k rate r x slots pos =
    at_moment x k (arrivals (k * r) slots) (departures (k * rate) 0 (arrivals (k * r) slots)) (arrivals r slots) (departures rate 0 (arrivals r slots))
    (arrivals-scale k r slots)
    (arrive_and_leave k rate r slots) pos

system_left : (k rate : ℕ) (slots : List ℕ) → system_tb_left_at k rate slots ≡ scaled k (system_tb_left rate slots)
system_left k rate slots = arrive_and_leave k (2 * rate) 2000000 slots

pub system_transport_moments : SystemTransportMoments
system_transport_moments k rate x slots pos =
    at_moment x k (system_arrivals_at k slots) (system_tb_left_at k rate slots) (system_arrivals slots) (system_tb_left rate slots)
    (arrivals-scale k 2000000 slots) (system_left k rate slots) pos

pub system_buffer_moments : SystemBufferMoments
system_buffer_moments k rate x slots pos =
    at_moment x k (system_tb_left_at k rate slots) (bsys_left_at k rate slots) (system_tb_left rate slots) (bsys_left rate slots) (system_left k rate slots)
    (ap (departures (k * (25 * rate)) 0) (system_left k rate slots) ∙ leave k (25 * rate) (system_tb_left rate slots)) pos

-- ---- Payloads

payloads_scaled : (k : ℕ) (packets : List Packet) (ds : List ℕ) → of_payloads packets (scaled k ds) ≡ scaled k (of_payloads packets ds)
unfolding of_payloads
payloads_scaled k [] ds = refl
payloads_scaled k (p ∷ packets) ds =
    let first : drop (188 - p.size) (take 188 (scaled k ds)) ≡ scaled k (drop (188 - p.size) (take 188 ds)) =
    ap (drop (188 - p.size)) (take-map (λ t. k * t) 188 ds) ∙ drop-map (λ t. k * t) (188 - p.size) (take 188 ds) in
    let rest : of_payloads packets (drop 188 (scaled k ds)) ≡ scaled k (of_payloads packets (drop 188 ds)) =
    ap (of_payloads packets) (drop-map (λ t. k * t) 188 ds) ∙ payloads_scaled k packets (drop 188 ds) in
    ap₂ (λ (a b : List ℕ). a ++ b) first rest ∙ sym (map-append (λ t. k * t) (drop (188 - p.size) (take 188 ds)) (of_payloads packets (drop 188 ds)))

pub left_scaled : LeftScaled
left_scaled k rate r packets =
    ap (of_payloads packets) (arrive_and_leave k rate r (slots_of packets)) ∙ payloads_scaled k packets (departures rate 0 (arrivals r (slots_of packets)))

pub multiplexing_moments : MultiplexingMoments
multiplexing_moments k rate rx rbx x packets pos =
    let entered = left_scaled k (rbx * rate) (rx * rbx) packets in
    at_moment x k (multiplexing_entered_at k rate rx rbx packets) (multiplexing_left_at k rate rx rbx packets)
    (multiplexing_entered rate rx rbx packets) (multiplexing_left rate rx rbx packets) entered
    (ap (departures (k * (rx * rate)) 0) entered ∙ leave k (rx * rate) (multiplexing_entered rate rx rbx packets)) pos

-- ---- The main buffer

abbrev one : Bool → ℕ
one b = cond b 1 0

none_more : (a b : Bool) → a ≡ false → one a ≤ one b
none_more a true e = rw e (omega arith)
none_more a false e = rw e (omega arith)

one_most : (a b : Bool) → b ≡ true → one a ≤ one b
one_most true b e = rw e (omega arith)
one_most false b e = rw e (omega arith)

-- A stamp at or before the last whole moment lies at or before the moment of the finer scale.
stamp_before : (k whole x stamp : ℕ) → k * whole ≤ x → stamp ≤ whole * 720000 → k * stamp ≤ x * 720000
stamp_before k whole x stamp le over = omega (arith, le, mul-le-mul_left k over)

-- A byte that is there at a moment of the finer scale is there at the last whole moment.
one_byte : (k rate r x due d : ℕ) → 0 < k → one (is_in_main_buffer (k * rate) r x due (k * d)) ≤ one (is_in_main_buffer rate r (x / k) due d)
one_byte k rate r x due d pos = elim (cases_lt (x / k) d) [
  | inl later ↦
      let out : is_in_main_buffer (k * rate) r x due (k * d) ≡ false =
      and_first _ _ (lt-leb (k * d) x (omega (arith, lt-mul-div-succ x pos, mul-le-mul_left k later))) in
      none_more (is_in_main_buffer (k * rate) r x due (k * d)) (is_in_main_buffer rate r (x / k) due d) out
  | inr here ↦ elim (cases_lt (x / k * 720000) (due * rate * r)) [
    | inl less ↦
        one_most (is_in_main_buffer (k * rate) r x due (k * d)) (is_in_main_buffer rate r (x / k) due d)
        (and_both _ _ (le-leb d (x / k) here) (lt-ltb (x / k * 720000) (due * rate * r) less))
    | inr more ↦
        let same : due * (k * rate) * r ≡ k * (due * rate * r) = omega arith in
        let before : k * (due * rate * r) ≤ x * 720000 = stamp_before k (x / k) x (due * rate * r) (mul-div-le x k) more in
        let out : is_in_main_buffer (k * rate) r x due (k * d) ≡ false =
        and_right _ _ (le-ltb (x * 720000) (due * (k * rate) * r) (omega (arith, same, before))) in
        none_more (is_in_main_buffer (k * rate) r x due (k * d)) (is_in_main_buffer rate r (x / k) due d) out
  ]
]
  where
    and_first : (a b : Bool) → a ≡ false → (a && b) ≡ false
    and_first a b e = rw e refl

    and_both : (a b : Bool) → a ≡ true → b ≡ true → (a && b) ≡ true
    and_both a b p q = rw (p, q) refl

bytes_of_unit : (k rate r x due : ℕ) (ds : List ℕ) → 0 < k → kept (k * rate) r x due (scaled k ds) ≤ kept rate r (x / k) due ds
unfolding kept
bytes_of_unit k rate r x due [] pos = omega arith
bytes_of_unit k rate r x due (d ∷ ds) pos =
    let rest = bytes_of_unit k rate r x due ds pos in
    let first = one_byte k rate r x due d pos in
    rw (
      sum_by-cons (λ e. one (is_in_main_buffer (k * rate) r x due e)) (k * d) (scaled k ds),
      sum_by-cons (λ e. one (is_in_main_buffer rate r (x / k) due e)) d ds,
    ) (omega (arith, first, rest))

pub main_moments : MainMoments
unfolding mb_fullness kept
main_moments k rate r x [] left pos = omega arith
main_moments k rate r x (unit ∷ units) left pos =
    let first = bytes_of_unit k rate r x unit.dts (take unit.size left) pos in
    let rest = main_moments k rate r x units (drop unit.size left) pos in
    rw (take-map (λ d. k * d) unit.size left, drop-map (λ d. k * d) unit.size left) (omega (arith, first, rest))

-- At a whole moment both scales agree on a byte.

same_byte : (k rate r x due d : ℕ) → 0 < k → is_in_main_buffer (k * rate) r (k * x) due (k * d) ≡ is_in_main_buffer rate r x due d
same_byte k rate r x due d pos = ap₂ (λ (a b : Bool). a && b) entered waits
  where
    entered : nat_le (k * d) (k * x) ≡ nat_le d x
    entered = elim (cases_lt x d) [
      | inl less ↦ lt-leb (k * d) (k * x) (omega (arith, pos, mul-le-mul_left k less)) ∙ sym (lt-leb d x less)
      | inr le ↦ le-leb (k * d) (k * x) (mul-le-mul_left k le) ∙ sym (le-leb d x le)
    ]

    waits : nat_lt (k * x * 720000) (due * (k * rate) * r) ≡ nat_lt (x * 720000) (due * rate * r)
    waits =
        let same : due * (k * rate) * r ≡ k * (due * rate * r) = omega arith in
        let moment : k * x * 720000 ≡ k * (x * 720000) = omega arith in
        elim (cases_lt (x * 720000) (due * rate * r)) [
          | inl less ↦ lt-ltb (k * x * 720000) (due * (k * rate) * r) (omega (arith, same, moment, pos, mul-le-mul_left k less))
              ∙ sym (lt-ltb (x * 720000) (due * rate * r) less)
          | inr le ↦ le-ltb (k * x * 720000) (due * (k * rate) * r) (omega (arith, same, moment, mul-le-mul_left k le))
              ∙ sym (le-ltb (x * 720000) (due * rate * r) le)
        ]

same_bytes : (k rate r x due : ℕ) (ds : List ℕ) → 0 < k → kept (k * rate) r (k * x) due (scaled k ds) ≡ kept rate r x due ds
unfolding kept
same_bytes k rate r x due [] pos = refl
same_bytes k rate r x due (d ∷ ds) pos =
    sum_by-cons (λ e. one (is_in_main_buffer (k * rate) r (k * x) due e)) (k * d) (scaled k ds)
    ∙ ap₂ (λ (a b : ℕ). a + b) (ap one (same_byte k rate r x due d pos)) (same_bytes k rate r x due ds pos)
    ∙ sym (sum_by-cons (λ e. one (is_in_main_buffer rate r x due e)) d ds)

pub main_whole_moments : MainWholeMoments
unfolding mb_fullness kept
main_whole_moments k rate r x [] left pos = refl
main_whole_moments k rate r x (unit ∷ units) left pos =
    ap₂ (λ (a b : ℕ). a + b)
    (ap (kept (k * rate) r (k * x) unit.dts) (take-map (λ d. k * d) unit.size left) ∙ same_bytes k rate r x unit.dts (take unit.size left) pos)
    (ap (mb_fullness (k * rate) r (k * x) units) (drop-map (λ d. k * d) unit.size left) ∙ main_whole_moments k rate r x units (drop unit.size left) pos)

pub main_peak_moments : MainPeakMoments
main_peak_moments k rate r n units left pos peak = record {
  never_more = λ x. le_trans (main_moments k rate r x units left pos) (peak.never_more (x / k));
  moment = k * peak.moment;
  reached = main_whole_moments k rate r peak.moment units left pos ∙ peak.reached;
}
