-- The own slots of an item over two plans, by the marks of both periods; if the marks are the same, the own slots of the first plan alone.
use Rattle.std.specs.Prelude.{ℕ, ◌+◌, ◌-◌, ◌*◌, ◌%◌, ◌≤◌, ◌==◌, Bool, true, false, List, [], ◌∷◌, length, nat_lt, slice_index_or}
use Rattle.std.specs.Bool.{beq}
use Rattle.std.specs.List.{list_all, zip}
use Rattle.std.proofs.Common.{◌≡◌, refl, sym, ap, ap₂, ◌∙◌, inl, inr, arith}
use Rattle.std.proofs.lemmas.Bool.{cases_Bool, and_parts, eqb-true, ltb-false}
use Rattle.std.proofs.Math.Nat.{add-mul-mod_self_right}
use Rattle.own_slots.specs.Period.{own}
use Rattle.own_slots.specs.Switch.{joined}
use Rattle.slot_plan.specs.declared.slot.Slot.{Slot}
use Rattle.slot_plan.specs.declared.slot.Item.{Item}
use Rattle.slot_plan.specs.Items.{is_own, marks}
use Rattle.slot_plan.specs.SwitchConditions.{owns_same}
use Rattle.slot_plan.specs.Schedule.{OwnedLaw, single, switched, owned}
use Rattle.slot_plan.proofs.OnePlan.{length_marks}

-- A repeated period is the same from the end of each of its repetitions.
turned : (m : List Bool) (periods s : ℕ) → periods * length m ≤ s → own m (s - periods * length m) ≡ own m s
turned m periods s after =
    let whole : s - periods * length m + periods * length m ≡ s = omega (arith, after) in
    ap (λ (k : ℕ). slice_index_or m k false)
    (sym (add-mul-mod_self_right (s - periods * length m) periods (length m)) ∙ ap (λ (k : ℕ). k % length m) whole)

in_slot : (m : List Bool) (periods s : ℕ) → joined (own m) (own m) (periods * length m) s ≡ own m s
in_slot m periods s = elim (cases_Bool (nat_lt s (periods * length m))) [
  | inl before ↦ rw before refl
  | inr after ↦ rw after (turned m periods s (ltb-false s (periods * length m) after))
]

repeated_on : (m : List Bool) (periods : ℕ) → joined (own m) (own m) (periods * length m) ≡ own m
repeated_on m periods i s = in_slot m periods s i

same_mark : (x y : Bool) → beq x y ≡ true → x ≡ y
same_mark true true e = refl
same_mark true false e = sym e
same_mark false true e = e
same_mark false false e = refl

-- If an item owns the same slots of both periods, its marks are the same.
marked : (item : Item) (first second : List Slot) → length first ≡ length second →
    list_all (λ p. beq (is_own item p.0) (is_own item p.1)) (zip first second) ≡ true → marks item first ≡ marks item second
marked item [] [] e all = refl
marked item [] (b ∷ second) e all = absurd (omega (arith, e))
marked item (a ∷ first) [] e all = absurd (omega (arith, e))
marked item (a ∷ first) (b ∷ second) e all =
    let both = and_parts (beq (is_own item a) (is_own item b)) (list_all (λ p. beq (is_own item p.0) (is_own item p.1)) (zip first second)) all in
    ap₂ (λ (x : Bool) (xs : List Bool). x ∷ xs) (same_mark (is_own item a) (is_own item b) both.0) (marked item first second (omega (arith, e)) both.1)

same_marks : (item : Item) (first second : List Slot) → owns_same item first second ≡ true → marks item first ≡ marks item second
same_marks item first second same =
    let both = and_parts (length first == length second) (list_all (λ p. beq (is_own item p.0) (is_own item p.1)) (zip first second)) same in
    marked item first second (eqb-true (length first) (length second) both.0) both.1

module _ (law : OwnedLaw) (first second : List Slot) (periods : ℕ) where
  -- The own slots over the two plans are given by the marks of both periods.
  pub owned_over : (item : Item) → joined (own (marks item first)) (own (marks item second)) (periods * length (marks item first))
      ≡ owned (switched first periods second) item
  owned_over item =
      ap (λ (n : ℕ). joined (own (marks item first)) (own (marks item second)) (periods * n)) (length_marks item first)
      ∙ sym (law.in_turn first second periods item)

  -- If an item owns the same slots of both periods, it owns the same slots over the two plans as over the first plan alone.
  pub owned_on : (item : Item) → owns_same item first second ≡ true → owned (single first) item ≡ owned (switched first periods second) item
  owned_on item same = law.alone first item ∙ sym (repeated_on (marks item first) periods)
      ∙ ap (λ (m : List Bool). joined (own (marks item first)) (own m) (periods * length (marks item first))) (same_marks item first second same)
      ∙ owned_over item
