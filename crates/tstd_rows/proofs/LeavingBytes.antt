-- Bytes that enter a main buffer in two rows
use Rattle.std.proofs.Common.{◌≡◌, ◌∙◌, sym, ℕ, suc, ◌+◌, ◌≤◌, ◌<◌, max, List, [], ◌∷◌, ◌++◌, length, Option, None, refl, ap, arith, All}
use Rattle.std.proofs.lemmas.List.Elements.{All-nil, All-cons, All-head, All-weaker}
use Rattle.clock27.specs.Peak.{Climbs, greatest_at}
use Rattle.tstd_rows.specs.TransportLaws.{Rises}
use Rattle.tstd.proofs.RisingTimes.{climbs_low, climbs_following, greatest_ext}
use Rattle.tstd_rows.specs.RowEntry.{entered}
use Rattle.tstd_rows.proofs.RowEntries.{none_entered}
use Rattle.tstd_rows.specs.Least.{least_found}
use Rattle.tstd_rows.proofs.Least.{found_shift, found-append}
use Rattle.tstd_rows.proofs.Pieces.{all_entered, all_others, entered-append}

pub greatest_at-append : (f : ℕ → ℕ) (ts us : List ℕ) → greatest_at f (ts ++ us) ≡ max (greatest_at f ts) (greatest_at f us)
unfolding greatest_at
greatest_at-append f [] us = omega arith
greatest_at-append f (t ∷ ts) us = omega (arith, greatest_at-append f ts us)

-- Times that climb also rise.
pub climbs_rises : (from : ℕ) (ts : List ℕ) → Climbs from ts → Rises from ts
unfolding Climbs Rises
climbs_rises from [] climbs = tt
climbs_rises from (t ∷ ts) climbs = (climbs.0, climbs_rises t ts (climbs_low t (suc t) ts (omega arith) climbs.1))

-- The later times of a list that climbs also climb, and the first of them is later than all times before it.
climbs_later : (from : ℕ) (ts us : List ℕ) → Climbs from (ts ++ us) → Climbs from us
unfolding Climbs
climbs_later from [] us climbs = climbs
climbs_later from (t ∷ ts) us climbs = climbs_low from (suc t) us (omega (arith, climbs.0)) (climbs_later (suc t) ts us climbs.1)

climbs_without : (from u : ℕ) (ts us : List ℕ) → Climbs from (ts ++ u ∷ us) → Climbs from (ts ++ us)
unfolding Climbs
climbs_without from u [] us climbs = climbs_low from (suc u) us (omega (arith, climbs.0)) climbs.1
climbs_without from u (t ∷ ts) us climbs = (climbs.0, climbs_without (suc t) u ts us climbs.1)

all_by : (from u : ℕ) (ts us : List ℕ) → Climbs from (ts ++ u ∷ us) → All (λ t. t ≤ u) ts
unfolding Climbs
all_by from u [] us climbs = All-nil (λ t. t ≤ u)
all_by from u (t ∷ ts) us climbs =
    let later : All (λ s. t < s) (u ∷ us) = all_others (λ s. t < s) ts (u ∷ us) (climbs_following t (suc t) (ts ++ u ∷ us) (omega arith) climbs.1) in
    let here : t < u = All-head (λ s. t < s) u us later in
    All-cons (λ t. t ≤ u) t ts (omega (arith, here)) (all_by (suc t) u ts us climbs.1)

-- At the times of the first row, no byte of the second row has entered.
first_same : (before : ℕ → ℕ) (until from : ℕ) (ts us : List ℕ) → Climbs from (ts ++ us) →
    greatest_at (λ x. before x + entered until x us) ts ≡ greatest_at before ts
unfolding Climbs greatest_at
first_same before until from [] us climbs = refl
first_same before until from (t ∷ ts) us climbs =
    let later : Climbs (suc t) us = climbs_later (suc t) ts us climbs.1 in
    let none = none_entered until t us (suc t) (omega arith) (climbs_rises (suc t) us later) in
    omega (arith, none, first_same before until (suc t) ts us climbs.1)

-- At the times of the second row, all bytes of the first row have entered.
later_same : (before middle : ℕ → ℕ) (until from : ℕ) (ts us vs : List ℕ) → Climbs from (ts ++ us) →
    ((x : ℕ) → All (λ t. t ≤ x) ts → middle x ≡ before x + entered until x ts) →
    greatest_at (λ x. middle x + entered until x vs) us ≡ greatest_at (λ x. before x + entered until x (ts ++ vs)) us
unfolding greatest_at
later_same before middle until from ts [] vs climbs there = refl
later_same before middle until from ts (u ∷ us) vs climbs there =
    let here = there u (all_by from u ts us climbs) in
    omega (arith, here, entered-append until u ts vs, later_same before middle until from ts us vs (climbs_without from u ts us climbs) there)

-- The most bytes at the entries of two rows are the most at the entries of both as one row.
pub most_of_two : (before middle : ℕ → ℕ) (until from : ℕ) (ts us : List ℕ) → Climbs from (ts ++ us) →
    ((x : ℕ) → All (λ t. t ≤ x) ts → middle x ≡ before x + entered until x ts) →
    max (max 0 (greatest_at (λ x. before x + entered until x ts) ts)) (greatest_at (λ x. middle x + entered until x us) us)
    ≡ greatest_at (λ x. before x + entered until x (ts ++ us)) (ts ++ us)
most_of_two before middle until from ts us climbs there =
    let f : ℕ → ℕ = λ x. before x + entered until x (ts ++ us) in
    let g : ℕ → ℕ = λ x. before x + entered until x ts in
    let both = greatest_at-append f ts us in
    let later = later_same before middle until from ts us us climbs there in
    let first : greatest_at f ts ≡ greatest_at g ts = first_of_two before until from ts us climbs in
    omega (arith, both, later, first)
  where
    first_of_two : (before : ℕ → ℕ) (until from : ℕ) (ts us : List ℕ) → Climbs from (ts ++ us) →
        greatest_at (λ x. before x + entered until x (ts ++ us)) ts ≡ greatest_at (λ x. before x + entered until x ts) ts
    first_of_two before until from ts us climbs =
        greatest_ext (λ x. before x + entered until x (ts ++ us)) (λ x. before x + entered until x ts + entered until x us) ts
        (λ x. omega (arith, entered-append until x ts us))
        ∙ first_same (λ x. before x + entered until x ts) until from ts us climbs

-- The fewest bytes that the bytes of two rows find are the fewest for both as one row.
pub least_of_two : (before middle : ℕ → ℕ) (until from : ℕ) (ts us : List ℕ) → Climbs from (ts ++ us) →
    ((x : ℕ) → All (λ t. t ≤ x) ts → middle x ≡ before x + entered until x ts) →
    least_found middle until 0 (least_found before until 0 None ts) us ≡ least_found before until 0 None (ts ++ us)
unfolding least_found Rises
least_of_two before middle until from ts [] climbs there = sym (found-append before until 0 None ts [])
least_of_two before middle until from ts (u ∷ us) climbs there =
    let least : Option ℕ = least_found before until 0 None ts in
    let all : All (λ t. t ≤ u) ts = all_by from u ts us climbs in
    let later : Rises from (u ∷ us) = climbs_rises from (u ∷ us) (climbs_later from ts (u ∷ us) climbs) in
    let rises : Rises u (u ∷ us) = (omega arith, later.1) in
    let count : length ts + 0 ≡ 0 + length ts = omega arith in
    found_shift before middle until (length ts) 0 u least (u ∷ us) rises
    (λ x le. let by : All (λ t. t ≤ x) ts = All-weaker (λ t. t ≤ u) (λ t. t ≤ x) (λ t low. omega (arith, low, le)) ts all in
    there x by ∙ ap (λ (n : ℕ). before x + n) (all_entered until x ts by))
    ∙ ap (λ (c : ℕ). least_found before until c least (u ∷ us)) count
    ∙ sym (found-append before until 0 None ts (u ∷ us))
