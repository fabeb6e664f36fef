-- The number of bytes in a buffer
use Rattle.std.proofs.Common.{◌≡◌, ℕ, suc, ◌+◌, ◌-◌, ◌*◌, ◌<◌, ◌≤◌, ◌⊎◌, max, inl, inr, List, [], ◌∷◌, refl, arith, cond}
use Rattle.std.proofs.Math.Nat.{mul-le-mul_right}
use Rattle.std.proofs.lemmas.Bool.{cases_lt}
use Rattle.std.proofs.lemmas.Bool.Decides.{nat_tests}
use Rattle.std.proofs.lemmas.List.Elements.{All-head, All-tail}
use Rattle.clock27.specs.Departure.{departures}
use Rattle.clock27.specs.Fullness.{is_in_buffer, fullness, Stays}
use Rattle.clock27.specs.Laws.{FullnessLaw, FullnessBound, FullnessBefore, FullnessAfter, RoomLaw}

pub fullness-append : FullnessLaw
unfolding fullness
fullness-append x [] ts' [] ds' e = omega arith
fullness-append x [] ts' (d ∷ ds) ds' e = cc
fullness-append x (t ∷ ts) ts' [] ds' e = cc
fullness-append x (t ∷ ts) ts' (d ∷ ds) ds' e =
    let rest = fullness-append x ts ts' ds ds' (cc) in
    rw rest (omega arith)

-- One byte adds at most 1 to the count.
one_at_most : (x t d : ℕ) → (let n : ℕ = cond (is_in_buffer x t d) 1 0 in n) ≤ 1
one_at_most x t d = grind (arith, nat_tests)

pub fullness_le : FullnessBound
unfolding fullness
fullness_le x [] ds = omega arith
fullness_le x (t ∷ ts) [] = omega arith
fullness_le x (t ∷ ts) (d ∷ ds) = omega (arith, one_at_most x t d, fullness_le x ts ds)

early_one : (x t d : ℕ) → x < t → (let n : ℕ = cond (is_in_buffer x t d) 1 0 in n) ≡ 0
early_one x t d h = grind (arith, nat_tests)

late_one : (x t d : ℕ) → d ≤ x → (let n : ℕ = cond (is_in_buffer x t d) 1 0 in n) ≡ 0
late_one x t d h = grind (arith, nat_tests)

pub fullness_before : FullnessBefore
unfolding fullness
fullness_before x [] ds a = refl
fullness_before x (t ∷ ts) [] a = refl
fullness_before x (t ∷ ts) (d ∷ ds) a = omega (arith, early_one x t d (All-head (λ s. x < s) t ts a), fullness_before x ts ds (All-tail (λ s. x < s) t ts a))

pub fullness_after : FullnessAfter
unfolding fullness
fullness_after x [] ds a = refl
fullness_after x (t ∷ ts) [] a = refl
fullness_after x (t ∷ ts) (d ∷ ds) a = omega (arith, late_one x t d (All-head (λ s. s ≤ x) d ds a), fullness_after x ts ds (All-tail (λ s. s ≤ x) d ds a))

-- A byte adds 1 if it is in the buffer: it arrived at or before x and leaves after x. Otherwise it adds 0.
pub counted_one : (x t d : ℕ) → (let n : ℕ = cond (is_in_buffer x t d) 1 0 in ((n ≡ 1) × (t ≤ x) × (x < d)) ⊎ ((n ≡ 0) × ((x < t) ⊎ (d ≤ x))))
counted_one x t d = grind (arith, nat_tests)

-- Among c bytes in the buffer the last leaves at `prev`, and each leaves a step before its successor; with one more byte, leaving at d, the same is true of c
-- + 1 bytes.
one_more : (c step x t prev d : ℕ) → 0 < step → c * step ≤ (prev + step) - (x + 1) → d ≡ max t prev + step → t ≤ x → x < d →
    suc c * step ≤ (d + step) - (x + 1)
one_more c step x t prev d pos h e come leave = elim (cases_lt x prev) [
  | inl later ↦ omega (arith, h)
  | inr earlier ↦ elim (cases_lt 0 c) [
    | inl some ↦ absurd (omega (arith, h, mul-le-mul_right step some))
    | inr none ↦ let z : c ≡ 0 = omega arith in rw z (omega arith)
  ]
]

-- The buffer has room for one more byte.
one_fits : (c step room x t d : ℕ) → suc c * step ≤ (d + step) - (x + 1) → d ≤ t + room * step → t ≤ x → 0 < step → suc c ≤ room
one_fits c step room x t d h stay come pos = elim (cases_lt room (suc c)) [
  | inl over ↦ absurd (omega (arith, h, mul-le-mul_right step over))
  | inr within ↦ within
]

-- The room that is left if c earlier bytes are in the buffer
room_left : (c x step room prev : ℕ) (ts : List ℕ) → 0 < step → c ≤ room → c * step ≤ (prev + step) - (x + 1) →
    Stays (room * step) ts (departures step prev ts) → c + fullness x ts (departures step prev ts) ≤ room
unfolding departures fullness Stays
room_left c x step room prev [] pos few h stay = omega arith
room_left c x step room prev (t ∷ ts) pos few h stay = elim (counted_one x t (max t prev + step)) [
  | inl is ↦
      let more = one_more c step x t prev (max t prev + step) pos h refl is.1 is.2 in
      let fits = one_fits c step room x t (max t prev + step) more stay.0 is.1 pos in
      omega (arith, is.0, room_left (suc c) x step room (max t prev + step) ts pos fits more stay.1)
  | inr is ↦
      let same : c * step ≤ (max t prev + step + step) - (x + 1) = omega (arith, h) in
      omega (arith, is.0, room_left c x step room (max t prev + step) ts pos few same stay.1)
]

pub room_law : RoomLaw
room_law x step room ts pos stay =
    let none : 0 * step ≤ (0 + step) - (x + 1) = omega arith in
    let few : 0 ≤ room = omega arith in
    omega (arith, room_left 0 x step room 0 ts pos few none stay)
