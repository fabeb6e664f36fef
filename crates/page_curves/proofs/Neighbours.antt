-- Slots that are joined in pairs, in place.
use Rattle.std.proofs.Common.{◌≡◌, ◌≢◌, ◌∙◌, ℕ, ◌+◌, ◌*◌, ◌==◌, ◌<◌, ◌≤◌, ◌⊎◌, inl, inr, Bool, true, false, List, [], ◌∷◌, length, get_or, set, take, drop, min}
use Rattle.std.proofs.Common.{max, ◌/◌, Option, None, refl, sym, ap, ap₂, subst, arith}
use Rattle.std.proofs.lemmas.Bool.{cases_lt}
use Rattle.std.proofs.lemmas.List.{get_or-set_same, get_or-set_other, get_or-take, get_or_past, length-take}
use Rattle.page_curves.specs.declared.bounds.Bounds.{Bounds}
use Rattle.page_curves.specs.Bounds.{joined}
use Rattle.page_curves.specs.Slots.{greatest_in, greatest_of}
use Rattle.page_curves.proofs.Merging.{equal, unequal}

-- The first n slots are joined, and the later slots are unchanged.
pub record Joins (now before : List (Option Bounds)) (n : ℕ) : Type 0 where
  pub same_length : length now ≡ length before
  pub done : (k : ℕ) → k < n → get_or now k None ≡ joined (get_or before (2 * k) None) (get_or before (2 * k + 1) None)
  pub others : (k : ℕ) → n ≤ k → get_or now k None ≡ get_or before k None

pub joins_none : (before : List (Option Bounds)) → Joins before before 0
joins_none before = record { same_length = refl; done = λ k less. absurd (omega (arith, less)); others = λ k le. refl }

pub joins_more : (now before : List (Option Bounds)) (i : ℕ) (x : Option Bounds) → i < length now →
    x ≡ joined (get_or now (2 * i) None) (get_or now (2 * i + 1) None) →
    length (set now i x) ≡ length now → Joins now before i → Joins (set now i x) before (i + 1)
joins_more now before i x lt is keeps j = record {
  same_length = keeps ∙ j.same_length;
  done = λ k less. by k less (k == i) refl;
  others = λ k le. get_or-set_other now i k x None (apart k le) ∙ j.others k (omega (arith, le));
}
  where
    apart : (k : ℕ) → i + 1 ≤ k → k ≢ i
    apart k le e = omega (arith, le, e)

    by : (k : ℕ) → k < i + 1 → (t : Bool) → (k == i) ≡ t → get_or (set now i x) k None ≡ joined (get_or before (2 * k) None) (get_or before (2 * k + 1) None)
    by k less true e =
        subst (λ (n : ℕ). get_or (set now i x) n None ≡ joined (get_or before (2 * n) None) (get_or before (2 * n + 1) None)) (sym (equal k i e))
        (get_or-set_same now i x None lt ∙ is ∙ ap₂ joined (j.others (2 * i) (omega arith)) (j.others (2 * i + 1) (omega arith)))
    by k less false e =
        let other : k ≢ i = unequal k i e in
        get_or-set_other now i k x None other ∙ j.done k (omega (arith, less, other))

-- Half of the slots is left.
pub joins_all : (now before : List (Option Bounds)) (count : ℕ) → length before ≤ 2 * count → Joins now before count → (slot : ℕ) →
    get_or (take count now) slot None ≡ joined (get_or before (2 * slot) None) (get_or before (2 * slot + 1) None)
unfolding joined
joins_all now before count half j slot = by (cases_lt slot count)
  where
    by : (slot < count) ⊎ (count ≤ slot) → get_or (take count now) slot None ≡ joined (get_or before (2 * slot) None) (get_or before (2 * slot + 1) None)
    by (inl lt) = get_or-take count now slot None lt ∙ j.done slot lt
    by (inr le) =
        let short : length (take count now) ≤ slot = omega (arith, length-take count now, le) in
        let none : get_or (take count now) slot None ≡ None = get_or_past (take count now) slot None short in
        let first : get_or before (2 * slot) None ≡ None = get_or_past before (2 * slot) None (omega (arith, half, le)) in
        let second : get_or before (2 * slot + 1) None ≡ None = get_or_past before (2 * slot + 1) None (omega (arith, half, le)) in
        none ∙ sym (ap₂ joined first second)

-- The greatest value of the remaining slots.
pub greatest_more : (rest after : List (Option Bounds)) (b : Option Bounds) (g x m whole : ℕ) → x ≡ greatest_in b → m ≡ max g x → rest ≡ b ∷ after →
    max g (greatest_of rest) ≡ whole →
    max m (greatest_of after) ≡ whole
unfolding greatest_of
greatest_more rest after b g x m whole is more same before =
    let one : greatest_of rest ≡ max (greatest_in b) (greatest_of after) = ap greatest_of same in
    omega (arith, one, is, more, before)

pub greatest_all : (rest : List (Option Bounds)) (g whole : ℕ) → rest ≡ [] → max g (greatest_of rest) ≡ whole → g ≡ whole
unfolding greatest_of
greatest_all rest g whole same before =
    let none : greatest_of rest ≡ 0 = ap greatest_of same in
    omega (arith, none, before)
