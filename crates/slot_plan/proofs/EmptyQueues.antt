-- Buffers with bounded work are empty at least once a second.
use Rattle.std.proofs.Common.{◌≡◌, ℕ, zero, suc, ◌+◌, ◌-◌, ◌*◌, ◌/◌, ◌<◌, ◌≤◌, max, Bool, true, false, List, [], ◌∷◌, ◌++◌, take, drop, refl, ap, ◌∙◌, sym, inl}
use Rattle.std.proofs.Common.{inr, arith, add-one, All}
use Rattle.std.proofs.Math.Nat.{le_trans, mul-le-mul_left, mul-le-mul_right, mul-pos, mul-div-le, lt-mul-div-succ}
use Rattle.std.proofs.lemmas.Bool.{cases_Bool, cases_lt}
use Rattle.std.proofs.lemmas.List.Elements.{All-nil, All-cons, All-append, All-take, All-drop, All-weaker}
use Rattle.clock27.specs.Arrival.{bytes_from, arrivals}
use Rattle.clock27.specs.Departure.{departures, last_left}
use Rattle.clock27.specs.Fullness.{fullness}
use Rattle.clock27.proofs.Departures.{departures-append, length-departures, rising, earliest, row}
use Rattle.clock27.proofs.Fullness.{fullness-append, fullness_before, fullness_after}
use Rattle.clock27.proofs.Tandem.{second_law}
use Rattle.own_slots.specs.Slots.{own_before, AtLeastPerWindow, Rises}
use Rattle.own_slots.specs.Work.{BoundsWork}
use Rattle.own_slots.proofs.Counts.{own_before_lt, number_of}
use Rattle.own_slots.proofs.WorkLemmas.{work_scale_law}
use Rattle.unit_timing.specs.Schedule.{Packet}
use Rattle.unit_timing.specs.Transport.{slots_of, of_payloads, tb_fullness}
use Rattle.unit_timing.specs.VideoBuffers.{multiplexing_entered, multiplexing_left, multiplexing_fullness}
use Rattle.unit_timing.specs.EmptyBuffers.{EmptySoon, IsEmptyEachSecond}
use Rattle.unit_timing.proofs.Thinning.{payload_fullness}
use Rattle.slot_plan.proofs.EmptySlots.{EmptiesOften}

-- The work left at the begin of a slot: the work before the slot less the drain of one slot

abbrev Left : ℕ → (ℕ → ℕ) → ℕ → ℕ → Type 0
Left r W s prev = prev ≤ 188 * s * r + (W s - 188 * r)

later_slot : (before after drained first prev : ℕ) → before - drained ≤ after → prev ≤ first + (before - drained) → prev ≤ first + drained + (after - drained)
later_slot before after drained first prev step left = omega (arith, step, left)

left_next : (own : ℕ → Bool) (rate r room peak : ℕ) (W : ℕ → ℕ) (s prev : ℕ) → BoundsWork own rate r room peak W → Left r W s prev → Left r W (suc s) prev
left_next own rate r room peak W s prev b h = rw (← add-one s) (there (elim (cases_Bool (own s)) [
  | inl y ↦ omega (arith, (b s).busy y)
  | inr n ↦ (b s).idle n
]))
  where
    there : W s - 188 * r ≤ W (s + 1) → prev ≤ 188 * (s + 1) * r + (W (s + 1) - 188 * r)
    there step = omega (arith, later_slot (W s) (W (s + 1)) (188 * r) (188 * s * r) prev step h)

left_more : (own : ℕ → Bool) (rate r room peak : ℕ) (W : ℕ → ℕ) (k s prev : ℕ) → BoundsWork own rate r room peak W → Left r W s prev → Left r W (s + k) prev
left_more own rate r room peak W zero s prev b h = let e : s + 0 ≡ s = omega arith in rw e h
left_more own rate r room peak W (suc k) s prev b h =
    let e : s + suc k ≡ suc (s + k) = omega arith in
    rw e (left_next own rate r room peak W (s + k) prev b (left_more own rate r room peak W k s prev b h))

left_le : (own : ℕ → Bool) (rate r room peak : ℕ) (W : ℕ → ℕ) (s t prev : ℕ) → BoundsWork own rate r room peak W → s ≤ t → Left r W s prev → Left r W t prev
left_le own rate r room peak W s t prev b le h =
    let e : s + (t - s) ≡ t = omega arith in
    rw e at (left_more own rate r room peak W (t - s) s prev b h)

-- The last of n successive bytes leaves after all n are drained from the first arrival on, or a step after its own arrival.
one_last : (first prev step r : ℕ) → max first prev + step + r ≤ max (max first prev + 1 * step + r) (first + r + step)
one_last first prev step r = omega arith

more_last : (first prev step r bytes drained last : ℕ) → (step < r → bytes ≤ drained) →
    last + r ≤ max (max (first + r) (max first prev + step) + step + bytes + r) (first + r + r + drained + step) →
    last + r ≤ max (max first prev + step + step + bytes + r) (first + r + r + drained + step)
more_last first prev step r bytes drained last fewer h = elim (cases_lt step r) [
  | inl fast ↦ omega (arith, h, fewer fast, fast)
  | inr slow ↦ omega (arith, h, slow)
]

last_in_row : (step r n i prev : ℕ) → last_left step prev (bytes_from r i (suc n)) + r ≤ max (max (i * r) prev + suc n * step + r) ((i + suc n) * r + step)
unfolding last_left bytes_from
last_in_row step r zero i prev = omega (arith, one_last (i * r) prev step r)
last_in_row step r (suc n) i prev = omega (
  arith,
  more_last (i * r) prev step r (n * step) (n * r) (last_left step (max (i * r) prev + step) (bytes_from r (suc i) (suc n)))
      (λ fast. mul-le-mul_left n (omega (arith, fast))) (omega (arith, last_in_row step r n (suc i) (max (i * r) prev + step))),
)

packet_row : (step r s prev : ℕ) → last_left step prev (bytes_from r (188 * s) 188)
    + r ≤ max (max (188 * s * r) prev + 188 * step + r) ((188 * s + 188) * r + step)
packet_row step r s prev = last_in_row step r 187 (188 * s) prev

after_packet : (before after step r first prev last : ℕ) → (before - 188 * r) + 188 * step ≤ after → prev ≤ first + (before - 188 * r) →
    last + r ≤ max (max first prev + 188 * step + r) (first + 188 * r + step) → last ≤ first + 188 * r + (after - 188 * r)
after_packet before after step r first prev last busy left h = omega (arith, busy, left, h)

left_packet : (own : ℕ → Bool) (rate r room peak : ℕ) (W : ℕ → ℕ) (s prev : ℕ) → BoundsWork own rate r room peak W → own s ≡ true → Left r W s prev →
    Left r W (suc s) (last_left rate prev (bytes_from r (188 * s) 188))
left_packet own rate r room peak W s prev b y h = rw (← add-one s)
    (omega (
      arith,
      after_packet (W s) (W (s + 1)) rate r (188 * s * r) prev (last_left rate prev (bytes_from r (188 * s) 188)) ((b s).busy y) h
          (omega (arith, packet_row rate r s prev)),
    ))

-- Slots that empty a queue

arrive_after : (own : ℕ → Bool) (r from : ℕ) (slots : List ℕ) → Rises own from slots → All (λ t. 188 * from * r ≤ t) (arrivals r slots)
unfolding Rises arrivals
arrive_after own r from [] rises = All-nil (λ t. 188 * from * r ≤ t)
arrive_after own r from (s ∷ slots) rises =
    let here : 188 * from * r ≤ 188 * s * r = omega (arith, mul-le-mul_right (188 * r) rises.0) in
    let next : 188 * from * r ≤ 188 * suc s * r = omega (arith, here) in
    All-append (λ t. 188 * from * r ≤ t) (bytes_from r (188 * s) 188) (arrivals r slots)
    (All-weaker (λ t. 188 * s * r ≤ t) (λ t. 188 * from * r ≤ t) (λ t le. le_trans here le) (bytes_from r (188 * s) 188) (row r (188 * s) 188))
    (All-weaker (λ t. 188 * suc s * r ≤ t) (λ t. 188 * from * r ≤ t) (λ t le. le_trans next le) (arrivals r slots) (arrive_after own r (suc s) slots rises.2))

-- If slot s is no own slot, the buffer is empty from the end of the work left at the begin of s to the end of s.
nothing_there : (own : ℕ → Bool) (rate r room peak : ℕ) (W : ℕ → ℕ) (s x : ℕ) (slots : List ℕ) (from prev : ℕ) → BoundsWork own rate r room peak W →
    own s ≡ false → 188 * s * r + (W s - 188 * r) ≤ x → x < 188 * suc s * r → Rises own from slots → Left r W from prev →
    fullness x (arrivals r slots) (departures rate prev (arrivals r slots)) ≡ 0
unfolding Rises arrivals
nothing_there own rate r room peak W s x [] from prev b other done within rises h = unfold fullness in refl
nothing_there own rate r room peak W s x (t ∷ slots) from prev b other done within rises h = elim (cases_lt t s) [
  | inl before ↦
      let first = bytes_from r (188 * t) 188 in
      let last = last_left rate prev first in
      let here = left_le own rate r room peak W from t prev b rises.0 h in
      let after = left_packet own rate r room peak W t prev b rises.1 here in
      let by : last_left rate prev (bytes_from r (188 * t) 188) ≤ x = le_trans (left_le own rate r room peak W (suc t) s last b before after) done in
      let gone : fullness x (bytes_from r (188 * t) 188) (departures rate prev (bytes_from r (188 * t) 188)) ≡ 0 =
      fullness_after x first (departures rate prev first)
      (All-weaker (λ d. d ≤ last_left rate prev first) (λ d. d ≤ x) (λ d le. le_trans le by) (departures rate prev first) (rising rate prev first)) in
      let rest = nothing_there own rate r room peak W s x slots (suc t) last b other done within rises.2 after in
      rw (departures-append rate prev first (arrivals r slots))
      (fullness-append x first (arrivals r slots) (departures rate prev first) (departures rate last (arrivals r slots))
      (sym (length-departures rate prev first))
      ∙ omega (arith, gone, rest))
  | inr from_s ↦
      let ts = bytes_from r (188 * t) 188 ++ arrivals r slots in
      let later : suc s ≤ t = elim (cases_lt s t) [
        | inl lt ↦ lt
        | inr le ↦ let e : t ≡ s = omega (arith, from_s, le) in
            let both : true ≡ false = sym rises.1 ∙ ap own e ∙ other in absurd (let no : ⊥ = cc in no)
      ] in
      let low : x < 188 * t * r = omega (arith, within, mul-le-mul_right (188 * r) later) in
      let all : All (λ u. 188 * t * r ≤ u) (arrivals r (t ∷ slots)) = arrive_after own r t (t ∷ slots) (omega arith, rises.1, rises.2) in
      fullness_before x ts (departures rate prev ts) (All-weaker (λ u. 188 * t * r ≤ u) (λ u. x < u) (λ u le. omega (arith, low, le)) ts all)
]

-- An empty buffer in each second

-- Each window of slots has a slot of this kind.
record Within (empties : ℕ → Bool) (from window : ℕ) : Type 0 where
  slot : ℕ
  low : from ≤ slot
  high : slot < from + window
  is : empties slot ≡ true

within_window : (empties : ℕ → Bool) (window from : ℕ) → AtLeastPerWindow empties window 1 → Within empties from window
within_window empties window from served =
    let n = number_of empties (from + window) (own_before empties from) (omega (arith, served from)) in
    let low : from ≤ n.slot = elim (cases_lt n.slot from) [
      | inl before ↦ absurd (omega (arith, own_before_lt empties n.slot from n.is_own before, n.number))
      | inr le ↦ le
    ] in
    record { slot = n.slot; low = low; high = n.before; is = n.is_own }

-- The moment at which the buffer becomes empty is within a second, and before the end of its slot.
soon_enough : (rate r window s at x y : ℕ) → window * 1504 ≤ rate → 188 * r * at ≤ x → s < at + window → y < 188 * suc s * r → (y - x) * 8 ≤ rate * r
soon_enough rate r window s at x y second begun high before =
    omega (arith, mul-le-mul_right r second, begun, before, mul-le-mul_left (188 * r) high)

empty_soon : (own : ℕ → Bool) (rate step r room peak : ℕ) (V W : ℕ → ℕ) (drain : ℕ) (slots : List ℕ) (x : ℕ) → 0 < r → BoundsWork own step r room peak V →
    (empties : EmptiesOften own rate drain W) → ((s : ℕ) → W s - 188 * drain < 188 * drain → V s - 188 * r < 188 * r) → Rises own 0 slots →
    EmptySoon rate r (λ x. tb_fullness step r x slots) x
empty_soon own rate step r room peak V W drain slots x pos b often scaled rises =
    let unit : 0 < 188 * r = omega (arith, pos) in
    let at = x / (188 * r) in
    let begun : 188 * r * (x / (188 * r)) ≤ x = mul-div-le x (188 * r) in
    let ends : x < 188 * r * (x / (188 * r) + 1) = lt-mul-div-succ x unit in
    let here = within_window often.empties often.window at often.served in
    let s = here.slot in
    let work : V here.slot - 188 * r < 188 * r = scaled s (often.drained s here.is) in
    let done : 188 * here.slot * r + (V here.slot - 188 * r) < 188 * suc here.slot * r = omega (arith, work) in
    let last : x < 188 * suc here.slot * r = omega (arith, ends, mul-le-mul_left (188 * r) here.low) in
    let y = max x (188 * s * r + (V s - 188 * r)) in
    let before : max x (188 * here.slot * r + (V here.slot - 188 * r)) < 188 * suc here.slot * r = omega (arith, done, last) in
    let start : Left r V 0 0 = omega arith in
    record {
      moment = y;
      from = omega arith;
      soon = soon_enough rate r often.window s at x y often.second begun here.high before;
      empty = nothing_there own step r room peak V s y slots 0 0 b (often.idle s here.is) (omega arith) before rises start;
    }

-- A transport buffer is empty at least once a second.
pub transport_empties : (own : ℕ → Bool) (rate r room peak : ℕ) (W : ℕ → ℕ) (slots : List ℕ) → 0 < r → BoundsWork own rate r room peak W →
    EmptiesOften own rate r W → Rises own 0 slots → IsEmptyEachSecond rate r (λ x. tb_fullness rate r x slots)
transport_empties own rate r room peak W slots pos b often rises x = empty_soon own rate rate r room peak W W r slots x pos b often (λ s lt. lt) rises

-- The multiplexing buffer

payloads_all : (P : ℕ → Type 0) (packets : List Packet) (ds : List ℕ) → All P ds → All P (of_payloads packets ds)
unfolding of_payloads
payloads_all P [] ds all = All-nil P
payloads_all P (p ∷ packets) ds all =
    All-append P (drop (188 - p.size) (take 188 ds)) (of_payloads packets (drop 188 ds)) (All-drop P (188 - p.size) (take 188 ds) (All-take P 188 ds all))
    (payloads_all P packets (drop 188 ds) (All-drop P 188 ds all))

-- The multiplexing buffer is empty before any byte can have left TB.
not_yet : (rate rx rbx x : ℕ) (packets : List Packet) → x < rbx * rate → multiplexing_fullness rate rx rbx x packets ≡ 0
not_yet rate rx rbx x packets early =
    let ts = arrivals (rx * rbx) (slots_of packets) in
    let entered = multiplexing_entered rate rx rbx packets in
    fullness_before x entered (multiplexing_left rate rx rbx packets)
    (payloads_all (λ t. x < t) packets (departures (rbx * rate) 0 ts)
    (All-weaker (λ d. 0 + rbx * rate ≤ d) (λ d. x < d) (λ d le. omega (arith, early, le)) (departures (rbx * rate) 0 ts)
    (earliest (rbx * rate) 0 0 ts (all_from ts))))
  where
    all_from : (ts : List ℕ) → All (λ t. 0 ≤ t) ts
    all_from [] = All-nil (λ t. 0 ≤ t)
    all_from (t ∷ ts) = All-cons (λ t. 0 ≤ t) t ts (omega arith) (all_from ts)

scaled_work : (rx rbx v : ℕ) → 0 < rx → 0 < rbx → v - 188 * rbx < 188 * rbx → rx * v - 188 * (rx * rbx) < 188 * (rx * rbx)
scaled_work rx rbx v some some' lt = omega (arith, mul-pos some some', mul-le-mul_left rx (less v (188 * rbx) lt (omega (arith, some'))))
  where
    less : (v d : ℕ) → v - d < d → 0 < d → suc v ≤ d + d
    less v d lt pos = omega (arith, lt, pos)

pub multiplexing_empties : (own : ℕ → Bool) (rate rx rbx room peak : ℕ) (W : ℕ → ℕ) (packets : List Packet) → 0 < rx → 0 < rbx → rbx ≤ rx →
    BoundsWork own rate rbx room peak W → EmptiesOften own rate rbx W → Rises own 0 (slots_of packets) →
    IsEmptyEachSecond rate (rx * rbx) (λ x. multiplexing_fullness rate rx rbx x packets)
multiplexing_empties own rate rx rbx room peak W packets some some' slower b often rises x = elim (cases_lt x (rbx * rate)) [
  | inl early ↦ record { moment = x; from = omega arith; soon = omega arith; empty = not_yet rate rx rbx x packets early }
  | inr later ↦
      let ts = arrivals (rx * rbx) (slots_of packets) in
      let first = rbx * rate in
      let alone = empty_soon own rate (rx * rate) (rx * rbx) room (rx * peak) (λ s. rx * W s) W rbx (slots_of packets) (x - rbx * rate) (mul-pos some some')
      (work_scale_law own rate rbx room peak rx W b) often (λ s lt. scaled_work rx rbx (W s) some some' lt) rises in
      let e : alone.moment + rbx * rate - rbx * rate ≡ alone.moment = omega arith in
      let none : multiplexing_fullness rate rx rbx (alone.moment + rbx * rate) packets ≤ 0 =
      le_trans (payload_fullness (alone.moment + first) (rx * rate) packets (departures (rbx * rate) 0 ts))
      (le_trans (second_law (alone.moment + first) (rbx * rate) (rx * rate) ts (mul-le-mul_right rate slower)) (rw e (omega (arith, alone.empty)))) in
      record {
        moment = alone.moment + rbx * rate;
        from = omega (arith, alone.from);
        soon = omega (arith, alone.soon, alone.from, later);
        empty = omega (arith, none);
      }
]
