-- The slots of a period, given to an item one after another.
use Rattle.std.specs.Prelude.{if◌then◌else◌, ◌==◌}
use Rattle.std.proofs.Common.{◌≡◌, ℕ, suc, ◌+◌, ◌*◌, ◌/◌, ◌%◌, ◌<◌, ◌≤◌, false, List, [], ◌∷◌, length, get_or, refl, ap, ap₂, sym, ◌∙◌, inl, inr, ◌≢◌, set}
use Rattle.std.proofs.Common.{eq-eqb, arith}
use Rattle.std.proofs.lemmas.Bool.{cases_eq}
use Rattle.std.proofs.lemmas.Bool.Decides.{nat_tests}
use Rattle.std.proofs.lemmas.Grind.{get_or-set_at}
use Rattle.std.proofs.lemmas.List.{get_or-set_other, length-set}
use Rattle.std.proofs.Math.Nat.{mul-le-mul_right, mod-add-div'}
use Rattle.slot_plan.specs.declared.slot.Slot.{Slot}
use Rattle.slot_plan.specs.declared.slot.Slot.TheVariants.{Null}
use Rattle.slot_plan.specs.Numbered.{numbered}
use Rattle.plan_maker.specs.PlainPlan.{with_item}

-- The content of a slot after the item gets every g-th slot from x on.
abbrev pub given : Slot → ℕ → ℕ → ℕ → Slot → Slot
given item g x s old = if s % g == x then item else old

-- If each slot of a new list is the new content of the old slot, the new list is all new contents in order.
pub numbered_same : (f : ℕ → Slot → Slot) (k : ℕ) (old new : List Slot) → length new ≡ length old →
    ((s : ℕ) → s < length old → get_or new s Null ≡ f (k + s) (get_or old s Null)) → new ≡ numbered (λ s o. f s o ∷ []) k old
numbered_same f k [] [] same all = refl
numbered_same f k [] (n ∷ ns) same all = absurd (omega (arith, same))
numbered_same f k (o ∷ os) [] same all = absurd (omega (arith, same))
numbered_same f k (o ∷ os) (n ∷ ns) same all =
    let first : n ≡ f k o = all 0 (omega arith) ∙ ap (λ (i : ℕ). f i o) (add_none k) in
    let rest : ns ≡ numbered (λ s o. f s o ∷ []) (suc k) os =
    numbered_same f (suc k) os ns (omega (arith, same))
    (λ s lt. all (suc s) (omega (arith, lt)) ∙ ap (λ (i : ℕ). f i (get_or os s Null)) (add_one_more k s)) in
    ap₂ (λ (a : Slot) (more : List Slot). a ∷ more) first rest
  where
    add_none : (k : ℕ) → k + 0 ≡ k
    add_none k = omega arith

    add_one_more : (k s : ℕ) → k + suc s ≡ suc k + s
    add_one_more k s = omega arith

pub with_item_same : (item : Slot) (g x : ℕ) (old new : List Slot) → length new ≡ length old →
    ((s : ℕ) → s < length old → get_or new s Null ≡ given item g x s (get_or old s Null)) → new ≡ with_item item g x old
with_item_same item g x old new same all =
    numbered_same (given item g x) 0 old new same (λ s lt. all s lt ∙ ap (λ (i : ℕ). given item g x i (get_or old s Null)) (none_before s))
  where
    none_before : (s : ℕ) → s ≡ 0 + s
    none_before s = omega arith

pub length-with_item : (item : Slot) (g x : ℕ) (slots : List Slot) → length (with_item item g x slots) ≡ length slots
length-with_item item g x slots = from 0 slots
  where
    from : (k : ℕ) (slots : List Slot) → length (numbered (λ s old. given item g x s old ∷ []) k slots) ≡ length slots
    from k [] = refl
    from k (o ∷ os) = omega (arith, from (suc k) os)

-- Slot x + j * g lies within the period if j is below the number of whole spacings.
pub within_period : (n g x j : ℕ) → 0 < g → x < g → j < n / g → x + j * g < n
within_period n g x j pos lt small =
    let a : (j + 1) * g ≤ n / g * g = mul-le-mul_right g (omega (arith, small)) in
    let b : n % g + n / g * g ≡ n = mod-add-div' n g in
    omega (arith, a, b, lt)

-- The first s slots have their new contents, and the later slots are unchanged.
pub record GivenUpTo (item : Slot) (g x : ℕ) (old now : List Slot) (s : ℕ) : Type 0 where
  pub same : length now ≡ length old
  pub done : (k : ℕ) → k < s → get_or now k Null ≡ given item g x k (get_or old k Null)
  pub left : (k : ℕ) → s ≤ k → get_or now k Null ≡ get_or old k Null

pub given_none : (item : Slot) (g x : ℕ) (old : List Slot) → GivenUpTo item g x old old 0
given_none item g x old = record { same = refl; done = λ k lt. absurd (omega (arith, lt)); left = λ k le. refl }

different : (a b : ℕ) → a ≢ b → (a == b) ≡ false
different a b other = grind (arith, nat_tests)

given_item : (item : Slot) (g x s : ℕ) (old : Slot) → s % g ≡ x → given item g x s old ≡ item
given_item item g x s old e = rw (eq-eqb (s % g) x e) refl

given_old : (item : Slot) (g x s : ℕ) (old : Slot) → s % g ≢ x → given item g x s old ≡ old
given_old item g x s old other = rw (different (s % g) x other) refl

pub given_here : (item : Slot) (g x : ℕ) (old now : List Slot) (s : ℕ) → s < length now → s % g ≡ x → GivenUpTo item g x old now s →
    GivenUpTo item g x old (set now s item) (s + 1)
given_here item g x old now s lt e r = record {
  same = length-set now s item ∙ r.same;
  done = λ k small. elim (cases_eq k s) [
    | inl is ↦ get_or-set_at now s k item Null is lt ∙ sym (given_item item g x k (get_or old k Null) (ap (λ (i : ℕ). i % g) is ∙ e))
    | inr other ↦ get_or-set_other now s k item Null other ∙ r.done k (omega (arith, small, other))
  ];
  left = λ k large. get_or-set_other now s k item Null (omega (arith, large)) ∙ r.left k (omega (arith, large));
}

pub given_not : (item : Slot) (g x : ℕ) (old now : List Slot) (s : ℕ) → s % g ≢ x → GivenUpTo item g x old now s → GivenUpTo item g x old now (s + 1)
given_not item g x old now s other r = record {
  same = r.same;
  done = λ k small. elim (cases_eq k s) [
    | inl is ↦ rw is (r.left s (omega arith) ∙ sym (given_old item g x s (get_or old s Null) other))
    | inr other ↦ r.done k (omega (arith, small, other))
  ];
  left = λ k large. r.left k (omega (arith, large));
}

pub given_all : (item : Slot) (g x : ℕ) (old now : List Slot) (s : ℕ) → length old ≤ s → GivenUpTo item g x old now s → now ≡ with_item item g x old
given_all item g x old now s le r = with_item_same item g x old now r.same (λ k lt. r.done k (omega (arith, lt, le)))
