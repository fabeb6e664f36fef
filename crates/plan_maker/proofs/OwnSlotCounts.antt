-- Each slot of a period belongs to at most one item, so all items together own at most the slots of the period.
use Rattle.std.proofs.Common.{◌≡◌, ℕ, suc, ◌+◌, ◌*◌, ◌<◌, ◌≤◌, ◌==◌, Bool, true, false, cond, List, [], ◌∷◌, Some, length, refl, ap, ◌∙◌, inl, inr, arith}
use Rattle.std.specs.Prelude.{slice_get}
use Rattle.std.specs.List.{sum_by}
use Rattle.std.proofs.lemmas.Bool.{cases_eq, cond-false}
use Rattle.std.proofs.lemmas.Bool.Decides.{nat_tests}
use Rattle.std.proofs.lemmas.List.Sums.{sum_by-cons}
use Rattle.own_slots.specs.Period.{places, per_period}
use Rattle.slot_plan.specs.declared.slot.Slot.{Slot}
use Rattle.slot_plan.specs.declared.slot.Item.{Item}
use Rattle.slot_plan.specs.declared.slot.Slot.TheVariants.{Stream as StreamSlot, Pcr as PcrSlot, Table as TableSlot, Null}
use Rattle.slot_plan.specs.declared.slot.Item.TheVariants.{Stream, Pcr, Table}
use Rattle.slot_plan.specs.Numbered.{numbered}
use Rattle.slot_plan.specs.Items.{is_own, marks}

-- Sums of numbered elements

abbrev pub sum_from : {A : Type 0} → (ℕ → A → ℕ) → ℕ → List A → ℕ
sum_from f k xs = sum_by (λ n. n) (numbered (λ i x. f i x ∷ []) k xs)

pub sum_one : {A : Type 0} (f : ℕ → A → ℕ) (k : ℕ) (x : A) (xs : List A) → sum_from f k (x ∷ xs) ≡ f k x + sum_from f (suc k) xs
sum_one f k x xs = sum_by-cons (λ n. n) (f k x) (numbered (λ i y. f i y ∷ []) (suc k) xs)

-- A bound on each element is a bound on the sum.
pub each_at_most : {A : Type 0} (f g : ℕ → A → ℕ) (n w k : ℕ) (xs : List A) →
    ((i : ℕ) (x : A) → slice_get xs i ≡ Some x → n * f (k + i) x ≤ w * g (k + i) x) → n * sum_from f k xs ≤ w * sum_from g k xs
each_at_most f g n w k [] each = omega arith
each_at_most f g n w k (x ∷ xs) each =
    let first : n * f k x ≤ w * g k x = let e : k + 0 ≡ k = omega arith in rw e at (each 0 x refl) in
    let rest = each_at_most f g n w (suc k) xs (λ i y is. let e : suc k + i ≡ k + suc i = omega arith in rw e (each (suc i) y is)) in
    rw (sum_one f k x xs, sum_one g k x xs) (omega (arith, first, rest))

-- The own slots of an item, one slot after another

places_count : (marks : List Bool) (b e : ℕ) → length (places b marks) ≡ length (places e marks)
unfolding places
places_count [] b e = refl
places_count (true ∷ marks) b e = ap (λ (n : ℕ). suc n) (places_count marks (suc b) (suc e))
places_count (false ∷ marks) b e = places_count marks (suc b) (suc e)

no_slots : per_period [] ≡ 0
unfolding places
no_slots = refl

one_slot : (mark : Bool) (marks : List Bool) → per_period (mark ∷ marks) ≡ cond mark 1 0 + per_period marks
unfolding places
one_slot true marks = omega (arith, places_count marks 1 0)
one_slot false marks = omega (arith, places_count marks 1 0)

-- The number of own slots that the items of a list have.
abbrev pub owned : {A : Type 0} → (ℕ → Item) → ℕ → List A → List Slot → ℕ
owned item k xs slots = sum_from (λ i _. per_period (marks (item i) slots)) k xs

-- How many items of a list own one slot.
abbrev held : {A : Type 0} → (ℕ → Item) → ℕ → List A → Slot → ℕ
held item k xs slot = sum_from (λ i _. cond (is_own (item i) slot) 1 0) k xs

owned_none : {A : Type 0} (item : ℕ → Item) (k : ℕ) (xs : List A) → owned item k xs [] ≡ 0
owned_none item k [] = refl
owned_none item k (x ∷ xs) = sum_one (λ i _. per_period (marks (item i) [])) k x xs ∙ omega (arith, no_slots, owned_none item (suc k) xs)

owned_more : {A : Type 0} (item : ℕ → Item) (k : ℕ) (xs : List A) (slot : Slot) (slots : List Slot) →
    owned item k xs (slot ∷ slots) ≡ held item k xs slot + owned item k xs slots
owned_more item k [] slot slots = refl
owned_more item k (x ∷ xs) slot slots = omega (
  arith,
  sum_one (λ i _. per_period (marks (item i) (slot ∷ slots))) k x xs,
  sum_one (λ i _. cond (is_own (item i) slot) 1 0) k x xs,
  sum_one (λ i _. per_period (marks (item i) slots)) k x xs,
  one_slot (is_own (item k) slot) (marks (item k) slots),
  owned_more item (suc k) xs slot slots,
)

-- At most one item owns a slot

-- No item of the list owns the slot.
none_held : {A : Type 0} (item : ℕ → Item) (k : ℕ) (xs : List A) (slot : Slot) → ((i : ℕ) → k ≤ i → is_own (item i) slot ≡ false) → held item k xs slot ≡ 0
none_held item k [] slot none = refl
none_held item k (x ∷ xs) slot none = omega (
  arith,
  sum_one (λ i _. cond (is_own (item i) slot) 1 0) k x xs,
  cond-false {A = ℕ} (is_own (item k) slot) 1 0 (none k (omega arith)),
  none_held item (suc k) xs slot (λ i le. none i (omega (arith, le))),
)

-- At most the item with this number owns the slot.
one_held : {A : Type 0} (item : ℕ → Item) (number k : ℕ) (xs : List A) (slot : Slot) → ((i : ℕ) → is_own (item i) slot ≡ (i == number)) →
    held item k xs slot ≤ 1
one_held item number k [] slot is = omega arith
one_held item number k (x ∷ xs) slot is = elim (cases_eq k number) [
  | inl e ↦ let later = none_held item (suc k) xs slot (λ i le. is i ∙ other i (omega (arith, le, e))) in
      omega (arith, sum_one (λ i _. cond (is_own (item i) slot) 1 0) k x xs, most (is_own (item k) slot), later)
  | inr d ↦ omega (
    arith,
    sum_one (λ i _. cond (is_own (item i) slot) 1 0) k x xs,
    cond-false {A = ℕ} (is_own (item k) slot) 1 0 (is k ∙ apart d),
    one_held item number (suc k) xs slot is,
  )
]
  where
    other : (i : ℕ) → number < i → (i == number) ≡ false
    other i lt = grind (arith, nat_tests)

    apart : (k ≡ number → ⊥) → (k == number) ≡ false
    apart d = grind (arith, nat_tests)

    most : (b : Bool) → cond b 1 0 ≤ 1
    most true = omega arith
    most false = omega arith

module _ {A B C : Type 0} (xs : List A) (ys : List B) (zs : List C) where
  one_owner : (slot : Slot) → held Stream 0 xs slot + (held Pcr 0 ys slot + held Table 0 zs slot) ≤ 1
  one_owner (StreamSlot n) =
      omega (
        arith,
        one_held Stream n 0 xs (StreamSlot n) (λ i. refl),
        none_held Pcr 0 ys (StreamSlot n) (λ i _. refl),
        none_held Table 0 zs (StreamSlot n) (λ i _. refl),
      )
  one_owner (PcrSlot n) =
      omega (
        arith,
        none_held Stream 0 xs (PcrSlot n) (λ i _. refl),
        one_held Pcr n 0 ys (PcrSlot n) (λ i. refl),
        none_held Table 0 zs (PcrSlot n) (λ i _. refl),
      )
  one_owner (TableSlot n) =
      omega (
        arith,
        none_held Stream 0 xs (TableSlot n) (λ i _. refl),
        none_held Pcr 0 ys (TableSlot n) (λ i _. refl),
        one_held Table n 0 zs (TableSlot n) (λ i. refl),
      )
  one_owner Null = omega (arith, none_held Stream 0 xs Null (λ i _. refl), none_held Pcr 0 ys Null (λ i _. refl), none_held Table 0 zs Null (λ i _. refl))

  -- All own slots together are slots of the period.
  pub all_owned : (slots : List Slot) → owned Stream 0 xs slots + (owned Pcr 0 ys slots + owned Table 0 zs slots) ≤ length slots
  all_owned [] = omega (arith, owned_none Stream 0 xs, owned_none Pcr 0 ys, owned_none Table 0 zs)
  all_owned (slot ∷ slots) = omega (
    arith,
    one_owner slot,
    all_owned slots,
    owned_more Stream 0 xs slot slots,
    owned_more Pcr 0 ys slot slots,
    owned_more Table 0 zs slot slots,
  )
