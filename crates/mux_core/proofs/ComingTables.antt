-- The own slots of an item before a slot, by whole periods.
use Rattle.std.proofs.Common.{◌≡◌, ℕ, zero, suc, ◌+◌, ◌*◌, ◌/◌, ◌%◌, ◌<◌, ◌≤◌, Bool, cond, List, length, ap, ◌∙◌, arith, inl, inr}
use Rattle.std.proofs.Math.Nat.{mod-add-div'}
use Rattle.std.proofs.lemmas.Bool.{cases_Bool}
use Rattle.own_slots.specs.Slots.{own_before}
use Rattle.own_slots.specs.Period.{own, per_period}
use Rattle.own_slots.proofs.Counts.{own_before_own, own_before_other}
use Rattle.own_slots.proofs.PositionLemmas.{own_before_turns}
use Rattle.slot_plan.specs.declared.slot.Slot.{Slot}
use Rattle.slot_plan.specs.declared.slot.Item.{Item}
use Rattle.slot_plan.specs.Items.{marks}
use Rattle.plan_checker.proofs.OwnMarks.{length_marks}

pub own_before_small : (f : ℕ → Bool) (s : ℕ) → own_before f s ≤ s
unfolding own_before
own_before_small f zero = omega arith
own_before_small f (suc s) = elim (cases_Bool (f s)) [
  | inl y ↦ omega (arith, own_before_own f s y, own_before_small f s)
  | inr n ↦ omega (arith, own_before_other f s n, own_before_small f s)
]

pub own_before_split : (item : Item) (slots : List Slot) (until : ℕ) → 0 < length slots →
    until / length slots * per_period (marks item slots) + own_before (own (marks item slots)) (until % length slots)
    ≡ own_before (own (marks item slots)) until
own_before_split item slots until some =
    let m = marks item slots in
    let turns = own_before_turns m (until % length slots) (until / length slots) in
    let same : until % length slots + until / length slots * length m ≡ until =
    ap (λ (n : ℕ). until % length slots + until / length slots * n) (length_marks item slots) ∙ mod-add-div' until (length slots) in
    let whole = ap (own_before (own m)) same in
    omega (arith, turns, whole)

pub own_more : (f : ℕ → Bool) (s count n : ℕ) → n ≡ cond (f s) 1 0 → count ≡ own_before f s → count + n ≡ own_before f (s + 1)
unfolding own_before
own_more f s count n is at =
    ap (λ (k : ℕ). k + n) at ∙ ap (λ (k : ℕ). own_before f s + k) is ∙ ap (own_before f) {x = suc s} {y = s + 1} (omega arith)
