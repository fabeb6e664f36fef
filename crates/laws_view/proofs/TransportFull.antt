-- The most that any of some bytes finds in a transport buffer is the buffer's greatest fullness from the first of these bytes on.
use Rattle.std.proofs.Common.{◌≡◌, ◌∙◌, ℕ, ◌+◌, ◌-◌, ◌≤◌, ◌<◌, max, List, [], ◌∷◌, ◌++◌, refl, ap, inl, inr, arith, All}
use Rattle.std.proofs.lemmas.Bool.{cases_lt}
use Rattle.std.proofs.lemmas.List.Elements.{All-nil, All-cons, All-weaker}
use Rattle.clock27.specs.Departure.{departures, last_left}
use Rattle.clock27.specs.Fullness.{fullness}
use Rattle.clock27.specs.Peak.{found, most_found}
use Rattle.clock27.proofs.Fullness.{fullness_before}
use Rattle.tstd_rows.specs.TransportLaws.{Rises}
use Rattle.tstd_rows.proofs.EvenRows.{div_le}
use Rattle.tstd_rows.proofs.Levels.{level, level_after, level_law, one_in, rises_after}
use Rattle.laws_view.specs.TransportHighs.{IsFull}

-- Bytes after other bytes

pub most_found-append : (step prev : ℕ) (ts us : List ℕ) →
    most_found step prev (ts ++ us) ≡ max (most_found step prev ts) (most_found step (last_left step prev ts) us)
unfolding most_found last_left
most_found-append step prev [] us = omega arith
most_found-append step prev (t ∷ ts) us = omega (arith, most_found-append step (max t prev + step) ts us)

fullness_joined : (x step prev : ℕ) (ts us : List ℕ) →
    fullness x (ts ++ us) (departures step prev (ts ++ us)) ≡ fullness x ts (departures step prev ts)
    + fullness x us (departures step (last_left step prev ts) us)
unfolding fullness departures last_left
fullness_joined x step prev [] us = omega arith
fullness_joined x step prev (t ∷ ts) us = omega (arith, fullness_joined x step (max t prev + step) ts us)

-- Rising times still rise without the first ones.
rises_later : (from t : ℕ) (ts us : List ℕ) → Rises from (ts ++ t ∷ us) → (from ≤ t) × Rises t us
unfolding Rises
rises_later from t [] us rises = rises
rises_later from t (s ∷ ts) us rises = let rest = rises_later s t ts us rises.1 in (omega (arith, rises.0, rest.0), rest.1)

rises_by : (from t : ℕ) (ts us : List ℕ) → Rises from (ts ++ t ∷ us) → All (λ s. s ≤ t) ts
unfolding Rises
rises_by from t [] us rises = All-nil (λ s. s ≤ t)
rises_by from t (s ∷ ts) us rises = All-cons (λ s. s ≤ t) s ts (rises_later s t ts us rises.1).0 (rises_by s t ts us rises.1)

-- The most that a byte finds

-- While no byte arrives, the level does not rise.
level_falls : (step t x last : ℕ) → 0 < step → t ≤ x → level step (last - x) ≤ level step (last - t)
level_falls step t x last pos le =
    let less : (last - x) + (step - 1) ≤ (last - t) + (step - 1) = omega (arith, le) in
    div_le ((last - x) + (step - 1)) ((last - t) + (step - 1)) step pos less

-- Once the first byte has arrived, the buffer never holds more than the most.
full_never : (step prev x t : ℕ) (ts : List ℕ) → 0 < step → Rises t ts → t ≤ x →
    level step (prev - x) + fullness x (t ∷ ts) (departures step prev (t ∷ ts)) ≤ most_found step prev (t ∷ ts)
unfolding Rises most_found departures fullness
full_never step prev x t [] pos rises here =
    omega (arith, one_in step x t prev pos here, level_after step t prev pos, level_falls step t x (max t prev + step) pos here)
full_never step prev x t (u ∷ ts) pos rises here = elim (cases_lt x u) [
  | inl early ↦
      let all : All (λ s. x < s) (u ∷ ts) = All-cons (λ s. x < s) u ts early (rises_after x u ts early rises.1) in
      let none = fullness_before x (u ∷ ts) (departures step (max t prev + step) (u ∷ ts)) all in
      omega (arith, none, one_in step x t prev pos here, level_after step t prev pos, level_falls step t x (max t prev + step) pos here)
  | inr later ↦ omega (arith, full_never step (max t prev + step) x u ts pos rises.1 later, one_in step x t prev pos here)
]

-- The moment when a byte finds the most
record Finds (step prev from most : ℕ) (ts : List ℕ) : Type 0 where
  first : List ℕ
  at : ℕ
  others : List ℕ
  is : ts ≡ first ++ at ∷ others
  after : from ≤ at
  there : level step (prev - at) + fullness at ts (departures step prev ts) ≡ most

-- If the next byte finds no more than this byte, it arrives later.
next_later : (step t u prev : ℕ) (ts : List ℕ) → 0 < step → t ≤ u → most_found step (max t prev + step) (u ∷ ts) ≤ found step prev t → t < u
unfolding most_found
next_later step t u prev ts pos le few = elim (cases_lt t u) [
  | inl lt ↦ lt
  | inr same ↦
      let e : u ≡ t = omega (arith, le, same) in
      let more : found step (max t prev + step) u ≡ level step (prev - t) + 1 + 1 = rw e (omega (arith, level_after step t prev pos)) in
      absurd (omega (arith, more, few))
]

finds : (step prev t : ℕ) (ts : List ℕ) → 0 < step → Rises t ts → Finds step prev t (most_found step prev (t ∷ ts)) (t ∷ ts)
unfolding Rises most_found departures fullness
finds step prev t [] pos rises =
    let same : t ≤ t = omega arith in
    record { first = []; at = t; others = []; is = refl; after = same; there = omega (arith, one_in step t t prev pos same, level_after step t prev pos) }
finds step prev t (u ∷ ts) pos rises = elim (cases_lt (found step prev t) (most_found step (max t prev + step) (u ∷ ts))) [
  | inl later ↦
      let rest = finds step (max t prev + step) u ts pos rises.1 in
      let come : t ≤ rest.at = omega (arith, rises.0, rest.after) in
      record {
        first = t ∷ rest.first;
        at = rest.at;
        others = rest.others;
        is = ap (λ (l : List ℕ). t ∷ l) rest.is;
        after = come;
        there = omega (arith, rest.there, one_in step rest.at t prev pos come, later);
      }
  | inr here ↦
      let same : t ≤ t = omega arith in
      let next : t < u = next_later step t u prev ts pos rises.0 here in
      let all : All (λ s. t < s) (u ∷ ts) = All-cons (λ s. t < s) u ts next (rises_after t u ts next rises.1) in
      let none = fullness_before t (u ∷ ts) (departures step (max t prev + step) (u ∷ ts)) all in
      record {
        first = [];
        at = t;
        others = u ∷ ts;
        is = refl;
        after = same;
        there = omega (arith, one_in step t t prev pos same, level_after step t prev pos, none, here);
      }
]

-- The bytes with all bytes before them

all_there : (step x t : ℕ) (before ts : List ℕ) → 0 < step → Rises 0 (before ++ t ∷ ts) → t ≤ x →
    fullness x (before ++ t ∷ ts) (departures step 0 (before ++ t ∷ ts))
    ≡ level step (last_left step 0 before - x) + fullness x (t ∷ ts) (departures step (last_left step 0 before) (t ∷ ts))
all_there step x t before ts pos rises here =
    let all : All (λ s. s ≤ x) before = All-weaker (λ s. s ≤ t) (λ s. s ≤ x) (λ s le. omega (arith, le, here)) before (rises_by 0 t before ts rises) in
    omega (arith, fullness_joined x step 0 before (t ∷ ts), level_law step x before pos all)

pub is_full : (step t : ℕ) (before ts : List ℕ) → 0 < step → Rises 0 (before ++ t ∷ ts) →
    IsFull step before (before ++ t ∷ ts) (most_found step (last_left step 0 before) (t ∷ ts))
is_full step t before ts pos rises =
    let prev : ℕ = last_left step 0 before in
    let own : Rises t ts = (rises_later 0 t before ts rises).1 in
    let at = finds step prev t ts pos own in
    record {
      arrived = t ∷ ts;
      follow = refl;
      greatest = record {
        never_more = λ x some. never x own some;
        first = at.first;
        moment = at.at;
        others = at.others;
        among = at.is;
        reached = all_there step at.at t before ts pos rises at.after ∙ at.there;
      };
    }
  where
    never : (x : ℕ) → Rises t ts → (All (λ s. x < s) (t ∷ ts) → ⊥) →
        fullness x (before ++ t ∷ ts) (departures step 0 (before ++ t ∷ ts)) ≤ most_found step (last_left step 0 before) (t ∷ ts)
    never x own some = elim (cases_lt x t) [
      | inl early ↦ absurd (some (All-cons (λ s. x < s) t ts early (rises_after x t ts early own)))
      | inr here ↦ omega (arith, all_there step x t before ts pos rises here, full_never step (last_left step 0 before) x t ts pos own here)
    ]
