-- Times in smaller units, and greater limits
use Rattle.std.proofs.Common.{◌≡◌, ℕ, zero, suc, ◌+◌, ◌-◌, ◌*◌, ◌/◌, ◌<◌, ◌≤◌, max, [], ◌∷◌, map, refl, ◌∙◌, sym, inl, inr, arith, nat_le, nat_lt}
use Rattle.std.proofs.Math.Nat.{mul-le-mul_left, mul-le-mul_right, mul-div-le, lt-mul-div-succ, le_of_lt}
use Rattle.std.proofs.lemmas.Bool.{cases_lt, lt-ltb, le-ltb, le-leb, lt-leb}
use Rattle.std.proofs.lemmas.List.{map-append}
use Rattle.clock27.specs.Arrival.{bytes_from, arrivals}
use Rattle.clock27.specs.Departure.{departures}
use Rattle.clock27.specs.Fullness.{fullness}
use Rattle.clock27.specs.Recurrence.{Recur}
use Rattle.clock27.specs.Laws.{ScaleLaw, ArrivalsScaleLaw, FullnessScaleLaw, LimitLaw}

-- The later of two times, and a step, in smaller units
next-scale : (k step a b : ℕ) → max (k * a) (k * b) + k * step ≡ k * (max a b + step)
next-scale k step a b = elim (cases_lt a b) [
  | inl h ↦ let m : max a b ≡ b = omega arith in let l = mul-le-mul_left k (le_of_lt h) in rw m (omega (arith, l))
  | inr h ↦ let m : max a b ≡ a = omega arith in let l = mul-le-mul_left k h in rw m (omega (arith, l))
]

pub departures-scale : ScaleLaw
unfolding departures
departures-scale k step prev [] = refl
departures-scale k step prev (t ∷ ts) = rw (next-scale k step t prev, departures-scale k step (max t prev + step) ts) refl

bytes_from-scale : (k r i n : ℕ) → bytes_from (k * r) i n ≡ map (λ t. k * t) (bytes_from r i n)
unfolding bytes_from
bytes_from-scale k r i zero = refl
bytes_from-scale k r i (suc n) =
    let one : i * (k * r) ≡ k * (i * r) = omega arith in
    rw (one, bytes_from-scale k r (suc i) n) refl

pub arrivals-scale : ArrivalsScaleLaw
unfolding arrivals
arrivals-scale k r [] = refl
arrivals-scale k r (slot ∷ slots) =
    rw (bytes_from-scale k r (188 * slot) 188, arrivals-scale k r slots, map-append (λ t. k * t) (bytes_from r (188 * slot) 188) (arrivals r slots)) refl

-- A multiple lies at or before a moment exactly if the number lies at or before the moment in greater units.
come-scale : (x k t : ℕ) → 0 < k → nat_le (k * t) x ≡ nat_le t (x / k)
come-scale x k t pos = elim (cases_lt (x / k) t) [
  | inl h ↦ lt-leb (k * t) x (omega (arith, lt-mul-div-succ x pos, mul-le-mul_left k h)) ∙ sym (lt-leb t (x / k) h)
  | inr h ↦ le-leb (k * t) x (omega (arith, mul-div-le x k, mul-le-mul_left k h)) ∙ sym (le-leb t (x / k) h)
]

left-scale : (x k d : ℕ) → 0 < k → nat_lt x (k * d) ≡ nat_lt (x / k) d
left-scale x k d pos = elim (cases_lt (x / k) d) [
  | inl h ↦ lt-ltb x (k * d) (omega (arith, lt-mul-div-succ x pos, mul-le-mul_left k h)) ∙ sym (lt-ltb (x / k) d h)
  | inr h ↦ le-ltb x (k * d) (omega (arith, mul-div-le x k, mul-le-mul_left k h)) ∙ sym (le-ltb (x / k) d h)
]

pub fullness-scale : FullnessScaleLaw
unfolding fullness
fullness-scale x k [] ds pos = refl
fullness-scale x k (t ∷ ts) [] pos = refl
fullness-scale x k (t ∷ ts) (d ∷ ds) pos = rw (come-scale x k t pos, left-scale x k d pos, fullness-scale x k ts ds pos) refl

pub limit_law : LimitLaw
unfolding Recur
limit_law rate limit greater from until [] le h = omega (arith, mul-le-mul_right rate le)
limit_law rate limit greater from until (byte ∷ bytes) le h =
    let first = h.0 in
    let near : (byte - from) * 8000 ≤ greater * rate = omega (arith, mul-le-mul_right rate le, first) in
    (near, limit_law rate limit greater byte until bytes le h.1)
