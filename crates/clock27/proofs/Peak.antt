-- The greatest fullness of a queue
use Rattle.std.proofs.Common.{◌≡◌, ℕ, zero, suc, ◌+◌, ◌-◌, ◌*◌, ◌/◌, ◌<◌, ◌≤◌, max, cond, List, [], ◌∷◌, ◌++◌, refl, inl, inr, arith, All}
use Rattle.std.proofs.Math.Nat.{le_trans, mul-le-mul_right, lt-mul-div-succ, div-eq_of_lt, add-div_right}
use Rattle.std.proofs.lemmas.Bool.{cases_lt}
use Rattle.std.proofs.lemmas.List.Elements.{All-nil, All-cons}
use Rattle.clock27.specs.Arrival.{bytes_from, arrivals}
use Rattle.clock27.specs.Departure.{departures}
use Rattle.clock27.specs.Fullness.{is_in_buffer, fullness, Stays}
use Rattle.clock27.specs.Peak.{Climbs, found, most_found, PeakLaw, ArrivalsClimb, DeparturesClimb}
use Rattle.clock27.proofs.Fullness.{room_law, fullness_before, counted_one}

-- The number of bytes that take y to leave, rounded up
abbrev left_in : ℕ → ℕ → ℕ
left_in step y = (y + (step - 1)) / step

left_none : (step : ℕ) → 0 < step → left_in step 0 ≡ 0
left_none step pos = div-eq_of_lt (omega arith)

left_one : (step y : ℕ) → 0 < y → y ≤ step → left_in step y ≡ 1
left_one step y some le =
    let pos : 0 < step = omega arith in
    let e : y + (step - 1) ≡ (y - 1) + step = omega arith in
    let z : (y - 1) / step ≡ 0 = div-eq_of_lt (omega arith) in
    rw e (omega (arith, add-div_right (y - 1) pos, z))

left_more : (step y : ℕ) → 0 < step → left_in step (y + step) ≡ left_in step y + 1
left_more step y pos =
    let e : y + step + (step - 1) ≡ (y + (step - 1)) + step = omega arith in
    rw e (add-div_right (y + (step - 1)) pos)

left_enough : (step y : ℕ) → 0 < step → y ≤ left_in step y * step
left_enough step y pos = omega (arith, lt-mul-div-succ (y + (step - 1)) pos)

-- At a moment x, a byte that has arrived adds 1 to the bytes that leave after x.
counted_in : (step x t prev : ℕ) → 0 < step → t ≤ x →
    (let n : ℕ = cond (is_in_buffer x t (max t prev + step)) 1 0 in n) + left_in step (prev - x) ≡ left_in step ((max t prev + step) - x)
counted_in step x t prev pos come = elim (counted_one x t (max t prev + step)) [
  | inl is ↦ elim (cases_lt x prev) [
    | inl waits ↦
        let e : (max t prev + step) - x ≡ (prev - x) + step = omega (arith, is.1) in
        rw e (omega (arith, is.0, left_more step (prev - x) pos))
    | inr free ↦
        let e : prev - x ≡ 0 = omega arith in
        let some : 0 < (max t prev + step) - x = omega (arith, is.2) in
        let few : (max t prev + step) - x ≤ step = omega (arith, is.2) in
        rw e (omega (arith, is.0, left_none step pos, left_one step ((max t prev + step) - x) some few))
  ]
  | inr is ↦ elim is.1 [
    | inl later ↦ absurd (omega arith)
    | inr gone ↦
        let e : prev - x ≡ 0 = omega arith in
        let z : (max t prev + step) - x ≡ 0 = omega arith in
        rw (e, z) (omega (arith, is.0))
  ]
]

-- If times climb from after x, all of them are after x.
climbs_after : (x from : ℕ) (ts : List ℕ) → x < from → Climbs from ts → All (λ t. x < t) ts
unfolding Climbs
climbs_after x from [] lt climbs = All-nil (λ t. x < t)
climbs_after x from (t ∷ ts) lt climbs =
    let here : x < t = omega (arith, climbs.0) in
    let next : x < suc t = omega arith in
    All-cons (λ t. x < t) t ts here (climbs_after x (suc t) ts next climbs.1)

-- When a byte arrives after all earlier bytes, it adds 1 to the bytes that have not left.
alone : (step t prev : ℕ) → 0 < step → left_in step ((max t prev + step) - t) ≡ left_in step (prev - t) + 1
alone step t prev pos =
    let e : (max t prev + step) - t ≡ (prev - t) + step = omega arith in
    rw e (left_more step (prev - t) pos)

-- The greatest fullness is found at some arrival.
record Found (step prev from most : ℕ) (ts : List ℕ) : Type 0 where
  at : ℕ
  after : from ≤ at
  is : left_in step (prev - at) + fullness at ts (departures step prev ts) ≡ most

most_reached : (step : ℕ) → 0 < step → (t : ℕ) (ts : List ℕ) (prev from : ℕ) → Climbs from (t ∷ ts) →
    Found step prev from (most_found step prev (t ∷ ts)) (t ∷ ts)
unfolding Climbs most_found departures fullness
most_reached step pos t [] prev from climbs =
    let same : t ≤ t = omega arith in
    record { at = t; after = climbs.0; is = omega (arith, counted_in step t t prev pos same, alone step t prev pos) }
most_reached step pos t (u ∷ ts) prev from climbs = elim (cases_lt (found step prev t) (most_found step (max t prev + step) (u ∷ ts))) [
  | inl later ↦
      let rest = most_reached step pos u ts (max t prev + step) (suc t) climbs.1 in
      let come : t ≤ rest.at = omega (arith, rest.after) in
      record { at = rest.at; after = omega (arith, climbs.0, come); is = omega (arith, rest.is, counted_in step rest.at t prev pos come) }
  | inr here ↦
      let same : t ≤ t = omega arith in
      let next : t < suc t = omega arith in
      let none = fullness_before t (u ∷ ts) (departures step (max t prev + step) (u ∷ ts)) (climbs_after t (suc t) (u ∷ ts) next climbs.1) in
      record { at = t; after = climbs.0; is = omega (arith, counted_in step t t prev pos same, alone step t prev pos, none) }
]

never_own_before : (step : ℕ) → 0 < step → (most : ℕ) (ts : List ℕ) (prev : ℕ) → most_found step prev ts ≤ most →
    Stays (most * step) ts (departures step prev ts)
unfolding Stays departures most_found
never_own_before step pos most [] prev le = tt
never_own_before step pos most (t ∷ ts) prev le =
    let one : left_in step (prev - t) + 1 ≤ most = omega arith in (
      omega (arith, left_enough step (prev - t) pos, mul-le-mul_right step one),
      never_own_before step pos most ts (max t prev + step) (omega arith),
    )

pub peak_law : PeakLaw
unfolding most_found
peak_law step from [] pos climbs = record {
  never_more = λ x. room_law x step 0 [] pos (unfold Stays departures in tt);
  moment = 0;
  reached = unfold fullness departures in refl;
}
peak_law step from (t ∷ ts) pos climbs =
    let at = most_reached step pos t ts 0 from climbs in
    let none : 0 - at.at ≡ 0 = omega arith in
    let same : most_found step 0 (t ∷ ts) ≤ most_found step 0 (t ∷ ts) = omega arith in
    record {
      never_more = λ x. room_law x step (most_found step 0 (t ∷ ts)) (t ∷ ts) pos (never_own_before step pos (most_found step 0 (t ∷ ts)) (t ∷ ts) 0 same);
      moment = at.at;
      reached = omega (arith, rw none at at.is, left_none step pos);
    }

climbs_from : (low from : ℕ) (ts : List ℕ) → low ≤ from → Climbs from ts → Climbs low ts
unfolding Climbs
climbs_from low from [] le climbs = tt
climbs_from low from (t ∷ ts) le climbs = (le_trans le climbs.0, climbs.1)

-- If times climb after n bytes in a row, the bytes and the times climb together.
climbs_row : (r i n : ℕ) (ts : List ℕ) → 0 < r → Climbs ((i + n) * r) ts → Climbs (i * r) (bytes_from r i n ++ ts)
unfolding Climbs bytes_from
climbs_row r i zero ts pos climbs = let e : i + 0 ≡ i = omega arith in rw e at climbs
climbs_row r i (suc n) ts pos climbs =
    let e : i + suc n ≡ suc i + n = omega arith in
    let same : i * r ≤ i * r = omega arith in
    let next : suc (i * r) ≤ suc i * r = omega arith in
    (same, climbs_from (suc (i * r)) (suc i * r) (bytes_from r (suc i) n ++ ts) next (climbs_row r (suc i) n ts pos (rw e at climbs)))

climbs_slots : (r from : ℕ) (slots : List ℕ) → 0 < r → Climbs from slots → Climbs (188 * from * r) (arrivals r slots)
unfolding Climbs arrivals
climbs_slots r from [] pos climbs = tt
climbs_slots r from (s ∷ slots) pos climbs =
    let e : 188 * suc s * r ≡ (188 * s + 188) * r = omega arith in
    let low : 188 * from * r ≤ 188 * s * r = omega (arith, mul-le-mul_right (188 * r) climbs.0) in
    climbs_from (188 * from * r) (188 * s * r) (bytes_from r (188 * s) 188 ++ arrivals r slots) low
    (climbs_row r (188 * s) 188 (arrivals r slots) pos (rw e at (climbs_slots r (suc s) slots pos climbs.1)))

pub arrivals_climb : ArrivalsClimb
arrivals_climb r slots pos climbs = let e : 188 * 0 * r ≡ 0 = omega arith in rw e at (climbs_slots r 0 slots pos climbs)

pub departures_climb : DeparturesClimb
unfolding Climbs departures
departures_climb step prev [] pos = tt
departures_climb step prev (t ∷ ts) pos =
    let after : suc prev ≤ max t prev + step = omega arith in
    (after, departures_climb step (max t prev + step) ts pos)
