-- The least share of slots that each item has in a plan that serves it.
use Rattle.std.proofs.Common.{◌≡◌, ℕ, zero, suc, ◌+◌, ◌*◌, ◌/◌, ◌%◌, ◌<◌, ◌≤◌, max, Bool, true, false, List, length, get_or, refl, ap, sym, ◌∙◌, inl, inr}
use Rattle.std.proofs.Common.{arith}
use Rattle.std.specs.Int.{div_ceil}
use Rattle.std.proofs.Math.Nat.{mul-le-mul_left, mul-le-mul_right, le_of_mul-le-mul_right, div-mul-le_self, div-zero, zero-div, zero-mod, mod-eq_of_lt}
use Rattle.std.proofs.lemmas.Nat.{le-div}
use Rattle.std.proofs.lemmas.Bool.{cases_lt, cond-true}
use Rattle.std.proofs.lemmas.Grind.{div_ceil_times}
use Rattle.clock27.specs.Units.{slot_units_at_1bps}
use Rattle.clock27.specs.Units.{byte_units_at_1bps}
use Rattle.own_slots.specs.Slots.{own_before, AtLeastPerWindow}
use Rattle.own_slots.specs.Period.{own, per_period, position}
use Rattle.own_slots.specs.Gaps.{gap}
use Rattle.own_slots.specs.Work.{work_at, after_at, most_after}
use Rattle.own_slots.proofs.Gaps.{gap_law}
use Rattle.own_slots.proofs.Extremes.{at_most_greatest}
use Rattle.own_slots.proofs.PositionLemmas.{own_before_turns, positions_law, position_below}
use Rattle.own_slots.proofs.WorkLemmas.{work_more}

-- Items that recur

served_turns : (f : ℕ → Bool) (w m j : ℕ) → AtLeastPerWindow f w m → j * m ≤ own_before f (j * w)
served_turns f w m zero serves = omega arith
served_turns f w m (suc j) serves =
    let e : suc j * w ≡ j * w + w = omega arith in
    rw e (omega (arith, served_turns f w m j serves, serves (j * w)))

begin : (f : ℕ → Bool) → own_before f 0 ≡ 0
unfolding own_before
begin f = refl

-- A period of n slots has at least n * k / g own slots, if g is the gap of k own slots.
pub recurs : (marks : List Bool) (k : ℕ) → 0 < per_period marks → length marks * k ≤ gap marks k * per_period marks
recurs marks k pos =
    let served = served_turns (own marks) (gap marks k) k (length marks) (gap_law marks k (gap marks k) pos (omega arith)) in
    let same : length marks * gap marks k ≡ 0 + gap marks k * length marks = omega arith in
    omega (arith, served, ap (own_before (own marks)) same, own_before_turns marks 0 (gap marks k), begin (own marks))

-- Work

-- After a packet the work is at least the work of that packet.
pub least_peak : (rate drain start : ℕ) (marks : List Bool) → 0 < per_period marks → 188 * rate ≤ most_after rate drain start marks
least_peak rate drain start marks pos =
    let s : ℕ = position marks 0 in
    let lt : s < length marks = position_below marks 0 pos pos in
    let e : s % length marks ≡ s = mod-eq_of_lt lt in
    let y : get_or marks s false ≡ true = ap (λ (i : ℕ). get_or marks i false) (sym e) ∙ (positions_law marks pos).is_own 0 in
    let most : after_at rate drain start marks s ≤ most_after rate drain start marks = at_most_greatest (length marks) (after_at rate drain start marks) s lt in
    omega (arith, most, cond-true {A = ℕ} (get_or marks s false) (work_at rate drain start marks (s + 1)) 0 y, rw y at (work_more rate drain start marks s lt))

-- Shares

-- The share of an item that recurs: a period of n slots has c own slots, k in each gap of g slots, and g' is the greatest gap allowed; in parts of w.
pub recurring_kept : (n c k g g' w : ℕ) → 0 < n → n * k ≤ g * c → g ≤ g' → n * (w * k / max 1 g') ≤ w * c
recurring_kept n c zero g g' w some near le = let e : w * zero ≡ zero = omega arith in rw (e, zero-div) (omega arith)
recurring_kept n c (suc k') zero g' w some near le = absurd (let h = mul-le-mul_left n (one_at_most k') in omega (arith, near, h, some))
  where
    one_at_most : (k' : ℕ) → 1 ≤ suc k'
    one_at_most k' = omega arith
recurring_kept n c (suc k') (suc h') g' w some near le =
    let k : ℕ = suc k' in
    let g : ℕ = suc h' in
    let q : ℕ = w * k / max 1 g' in
    let e : max 1 g' ≡ g' = omega (arith, le) in
    let a : q * g' ≤ w * k = omega (arith, div-mul-le_self (w * k) (max 1 g'), ap (λ (x : ℕ). q * x) e) in
    let b : q * g ≤ q * g' = mul-le-mul_left q le in
    let h : n * (q * g) ≤ n * (w * k) = mul-le-mul_left n (omega (arith, a, b)) in
    let m : w * (n * k) ≤ w * (g * c) = mul-le-mul_left w near in
    le_of_mul-le-mul_right {k = g} (omega (arith, h, m)) (omega arith)

-- The share of a stream with m packets in a time t in the long run, on the scale of the rate.
pub stream_kept : (n c m t w : ℕ) → 0 < n → m * n ≤ c * t → n * (w * m / t) ≤ w * c
stream_kept n c m zero w pos le = rw div-zero (omega arith)
stream_kept n c m (suc t') w pos le =
    let t : ℕ = suc t' in
    let q : ℕ = w * m / t in
    let h : n * (q * t) ≤ n * (w * m) = mul-le-mul_left n (div-mul-le_self (w * m) t) in
    let m' : w * (m * n) ≤ w * (c * t) = mul-le-mul_left w le in
    le_of_mul-le-mul_right {k = t} (omega (arith, h, m')) (omega arith)

-- The packets of a window of a slots, at the stream's pace.
pub window_kept : (n c m t a x : ℕ) → 0 < n → m * n ≤ c * t → a * c ≤ x → a * m / t ≤ x / n
window_kept n c m t a x pos le within =
    let q : ℕ = a * m / t in
    let few : n * q ≤ a * c = stream_kept n c m t a pos le in
    le-div q x n pos (omega (arith, few, within))

-- A quotient that is rounded up.
pub ceil_at_most : (x y n : ℕ) → x ≤ n * y → div_ceil x y ≤ n
ceil_at_most x zero n le = let z : x ≡ 0 = omega (arith, le) in rw (z, zero-div 0, zero-mod 0) (omega arith)
ceil_at_most x (suc y) n le =
    let b = (div_ceil_times x (suc y) (omega arith)).1 in
    elim (cases_lt n (div_ceil x (suc y))) [
      | inl over ↦ absurd (let h = mul-le-mul_right (suc y) over in omega (arith, b, h, le))
      | inr most ↦ most
    ]

-- If a plan leaves the time l for w packets in a row, l is long enough at the slower of the output's and the transport buffer's rate.
pub lead_kept : (c n r x w a peak l : ℕ) → 0 < c → c ≤ n → c * r ≤ n * x → 188 * r ≤ peak →
    (a + w * n + c) * slot_units_at_1bps * x + c * peak * byte_units_at_1bps ≤ c * l * r * x → (w * max r x + x + r) * slot_units_at_1bps ≤ l * (r * x)
lead_kept c n r x w a peak l some few pace high le =
    let slower : c * max r x ≤ n * x = elim (cases_lt x r) [
      | inl lt ↦ let e : max r x ≡ r = omega (arith, lt) in omega (arith, ap (λ (m : ℕ). c * m) e, pace)
      | inr ge ↦ let e : max r x ≡ x = omega (arith, ge) in omega (arith, ap (λ (m : ℕ). c * m) e, mul-le-mul_right x few)
    ] in
    let sent : w * (c * max r x) ≤ w * (n * x) = mul-le-mul_left w slower in
    let last : c * (188 * r) ≤ c * peak = mul-le-mul_left c high in
    le_of_mul-le-mul_right {k = c} (omega (arith, sent, last, le)) some
