-- What the state of a buffer says about its fullness
use Rattle.std.proofs.Common.{◌≡◌, ℕ, ◌+◌, ◌-◌, ◌*◌, ◌/◌, ◌<◌, ◌≤◌, max, cond, List, [], ◌∷◌, ◌++◌, length, refl, inl, inr, arith, All}
use Rattle.std.proofs.Math.Nat.{mul-le-mul_right, lt-mul-div-succ, div-eq_of_lt, add-div_right}
use Rattle.std.proofs.lemmas.Bool.{cases_lt}
use Rattle.std.proofs.lemmas.List.{length-append}
use Rattle.std.proofs.lemmas.List.Elements.{All-nil, All-cons, All-head, All-tail}
use Rattle.clock27.specs.Departure.{departures, last_left}
use Rattle.clock27.specs.Fullness.{is_in_buffer, fullness, Stays}
use Rattle.clock27.specs.Peak.{IsPeak, found, most_found}
use Rattle.clock27.proofs.Departures.{last_left-append}
use Rattle.clock27.proofs.Fullness.{room_law, fullness_before, counted_one}
use Rattle.tstd_rows.specs.TransportLaws.{EnteredLaw, LevelLaw, MostLaw, Rises}

most_found-append : (step prev : ℕ) (ts us : List ℕ) →
    most_found step prev (ts ++ us) ≡ max (most_found step prev ts) (most_found step (last_left step prev ts) us)
unfolding most_found last_left
most_found-append step prev [] us = omega arith
most_found-append step prev (t ∷ ts) us = omega (arith, most_found-append step (max t prev + step) ts us)

pub entered_law : EnteredLaw
entered_law buffer ts us =
    let last = last_left-append buffer.step buffer.last ts us in
    let most : max (max buffer.most (most_found buffer.step buffer.last ts)) (most_found buffer.step (last_left buffer.step buffer.last ts) us)
    ≡ max buffer.most (most_found buffer.step buffer.last (ts ++ us)) = omega (arith, most_found-append buffer.step buffer.last ts us) in
    let bytes : buffer.bytes + length ts + length us ≡ buffer.bytes + length (ts ++ us) = omega (arith, length-append ts us) in
    rw (last, most, bytes) refl

-- The number of bytes that leave in that time, including the last
abbrev pub level : ℕ → ℕ → ℕ
level step time = (time + (step - 1)) / step

pub level_none : (step : ℕ) → 0 < step → level step 0 ≡ 0
level_none step pos = div-eq_of_lt (omega arith)

level_more : (step time : ℕ) → 0 < step → level step (time + step) ≡ level step time + 1
level_more step time pos =
    let e : time + step + (step - 1) ≡ (time + (step - 1)) + step = omega arith in
    rw e (add-div_right (time + (step - 1)) pos)

level_one : (step time : ℕ) → 0 < time → time ≤ step → level step time ≡ 1
level_one step time some le =
    let pos : 0 < step = omega arith in
    let e : time + (step - 1) ≡ (time - 1) + step = omega arith in
    let z : (time - 1) / step ≡ 0 = div-eq_of_lt (omega arith) in
    rw e (omega (arith, add-div_right (time - 1) pos, z))

-- At a moment at or after a byte's arrival, the byte adds one to the level if it is in the buffer.
pub one_in : (step x t prev : ℕ) → 0 < step → t ≤ x →
    (let n : ℕ = cond (is_in_buffer x t (max t prev + step)) 1 0 in n) + level step (prev - x) ≡ level step ((max t prev + step) - x)
one_in step x t prev pos come = elim (counted_one x t (max t prev + step)) [
  | inl is ↦ elim (cases_lt x prev) [
    | inl waits ↦
        let e : (max t prev + step) - x ≡ (prev - x) + step = omega (arith, is.1) in
        rw e (omega (arith, is.0, level_more step (prev - x) pos))
    | inr free ↦
        let e : prev - x ≡ 0 = omega arith in
        let some : 0 < (max t prev + step) - x = omega (arith, is.2) in
        let few : (max t prev + step) - x ≤ step = omega (arith, is.2) in
        rw e (omega (arith, is.0, level_none step pos, level_one step ((max t prev + step) - x) some few))
  ]
  | inr is ↦ elim is.1 [
    | inl later ↦ absurd (omega arith)
    | inr gone ↦
        let e : prev - x ≡ 0 = omega arith in
        let z : (max t prev + step) - x ≡ 0 = omega arith in
        rw (e, z) (omega (arith, is.0))
  ]
]

-- The number of bytes in the buffer and the level of the bytes before them add up to the level after all bytes.
levels : (step x prev : ℕ) (ts : List ℕ) → 0 < step → All (λ t. t ≤ x) ts →
    fullness x ts (departures step prev ts) + level step (prev - x) ≡ level step (last_left step prev ts - x)
unfolding fullness departures last_left
levels step x prev [] pos all = omega arith
levels step x prev (t ∷ ts) pos all =
    omega (arith, one_in step x t prev pos (All-head (λ t. t ≤ x) t ts all), levels step x (max t prev + step) ts pos (All-tail (λ t. t ≤ x) t ts all))

pub level_law : LevelLaw
level_law step x ts pos all =
    let e : 0 - x ≡ 0 = omega arith in
    let all_of : fullness x ts (departures step 0 ts) + level step (0 - x) ≡ level step (last_left step 0 ts - x) = levels step x 0 ts pos all in
    omega (arith, rw e at all_of, level_none step pos)

-- A byte that arrives at t adds one to the level that it finds.
pub level_after : (step t prev : ℕ) → 0 < step → level step ((max t prev + step) - t) ≡ level step (prev - t) + 1
level_after step t prev pos =
    let e : (max t prev + step) - t ≡ (prev - t) + step = omega arith in
    rw e (level_more step (prev - t) pos)

pub rises_after : (x from : ℕ) (ts : List ℕ) → x < from → Rises from ts → All (λ t. x < t) ts
unfolding Rises
rises_after x from [] lt rises = All-nil (λ t. x < t)
rises_after x from (t ∷ ts) lt rises =
    let here : x < t = omega (arith, rises.0) in
    All-cons (λ t. x < t) t ts here (rises_after x t ts here rises.1)

-- The most bytes are found at an arrival.
record Found (step prev from most : ℕ) (ts : List ℕ) : Type 0 where
  at : ℕ
  after : from ≤ at
  is : level step (prev - at) + fullness at ts (departures step prev ts) ≡ most

-- If the next byte finds no more bytes than this one, it arrives later.
next_later : (step t u prev : ℕ) (ts : List ℕ) → 0 < step → t ≤ u → most_found step (max t prev + step) (u ∷ ts) ≤ found step prev t → t < u
unfolding most_found
next_later step t u prev ts pos le few = elim (cases_lt t u) [
  | inl lt ↦ lt
  | inr same ↦
      let e : u ≡ t = omega (arith, le) in
      let more : found step (max t prev + step) u ≡ level step (prev - t) + 1 + 1 = rw e (omega (arith, level_after step t prev pos)) in
      absurd (omega (arith, more, few))
]

most_reached : (step : ℕ) → 0 < step → (t : ℕ) (ts : List ℕ) (prev from : ℕ) → Rises from (t ∷ ts) →
    Found step prev from (most_found step prev (t ∷ ts)) (t ∷ ts)
unfolding Rises most_found departures fullness
most_reached step pos t [] prev from rises =
    let same : t ≤ t = omega arith in
    record { at = t; after = rises.0; is = omega (arith, one_in step t t prev pos same, level_after step t prev pos) }
most_reached step pos t (u ∷ ts) prev from rises = elim (cases_lt (found step prev t) (most_found step (max t prev + step) (u ∷ ts))) [
  | inl later ↦
      let rest = most_reached step pos u ts (max t prev + step) t rises.1 in
      let come : t ≤ rest.at = rest.after in
      record { at = rest.at; after = omega (arith, rises.0, come); is = omega (arith, rest.is, one_in step rest.at t prev pos come) }
  | inr here ↦
      let same : t ≤ t = omega arith in
      let next : t < u = next_later step t u prev ts pos rises.1.0 here in
      let all : All (λ s. t < s) (u ∷ ts) = All-cons (λ s. t < s) u ts next (rises_after t u ts next rises.1.1) in
      let none = fullness_before t (u ∷ ts) (departures step (max t prev + step) (u ∷ ts)) all in
      record { at = t; after = rises.0; is = omega (arith, one_in step t t prev pos same, level_after step t prev pos, none) }
]

-- No byte stays longer than the greatest number of bytes found takes to leave.
most_stays : (step : ℕ) → 0 < step → (most : ℕ) (ts : List ℕ) (prev : ℕ) → most_found step prev ts ≤ most → Stays (most * step) ts (departures step prev ts)
unfolding Stays departures most_found
most_stays step pos most [] prev le = tt
most_stays step pos most (t ∷ ts) prev le =
    let one : level step (prev - t) + 1 ≤ most = omega arith in
    let enough : prev - t ≤ level step (prev - t) * step = omega (arith, lt-mul-div-succ ((prev - t) + (step - 1)) pos) in (
      omega (arith, enough, mul-le-mul_right step one),
      most_stays step pos most ts (max t prev + step) (omega arith),
    )

most_peak : (step : ℕ) (ts : List ℕ) → 0 < step → Rises 0 ts → IsPeak (λ x. fullness x ts (departures step 0 ts)) (most_found step 0 ts)
unfolding most_found
most_peak step [] pos rises = record {
  never_more = λ x. room_law x step 0 [] pos (unfold Stays departures in tt);
  moment = 0;
  reached = unfold fullness departures in refl;
}
most_peak step (t ∷ ts) pos rises =
    let at = most_reached step pos t ts 0 0 rises in
    let none : 0 - at.at ≡ 0 = omega arith in
    let same : most_found step 0 (t ∷ ts) ≤ most_found step 0 (t ∷ ts) = omega arith in
    record {
      never_more = λ x. room_law x step (most_found step 0 (t ∷ ts)) (t ∷ ts) pos (most_stays step pos (most_found step 0 (t ∷ ts)) (t ∷ ts) 0 same);
      moment = at.at;
      reached = omega (arith, rw none at at.is, level_none step pos);
    }

pub most_law : MostLaw
most_law step ts pos rises =
    let e : max 0 (most_found step 0 ts) ≡ most_found step 0 ts = omega arith in
    rw e (most_peak step ts pos rises)
