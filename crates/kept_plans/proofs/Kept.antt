-- Slots that are kept.
use Rattle.std.proofs.Common.{◌≡◌, ◌∙◌, ◌≤◌, ℕ, true, List, Option, None, Some, Result, Ok, Err, IfOk, IfSome, length, ap, arith, sym}
use Rattle.std.proofs.lemmas.List.FromFn.{length-map-range_with_len}
use Rattle.description_parts.specs.Described.{Described}
use Rattle.slot_plan.specs.Planned.{Planned}
use Rattle.slot_plan.specs.declared.slot.Slot.{Slot}
use Rattle.plan_checker.specs.Served.{Served}
use Rattle.kept_plans.specs.Kept.{fixed_slot, fixed_slots, has_contents, keeps_slots}

module _ (old : Served) (d : Described) (given : Option ℕ) (period : ℕ) where
  fixed_length : (fixed shown : List Slot) → fixed ≡ fixed_slots old d given period → shown ≡ fixed → length shown ≡ period
  fixed_length fixed shown is same = ap length same ∙ ap length is ∙ length-map-range_with_len (fixed_slot old d given) 0 period

  -- The fixed slots are no more than a plan has.
  pub fits : (fixed shown : List Slot) → fixed ≡ fixed_slots old d given period → shown ≡ fixed → period ≤ 65536 → length shown ≤ 65536
  fits fixed shown is same le = omega (arith, fixed_length fixed shown is same, le)

  kept : (fixed shown slots : List Slot) → fixed ≡ fixed_slots old d given period → shown ≡ fixed → has_contents shown slots ≡ true →
      length slots ≡ length shown → keeps_slots old d given slots ≡ true
  kept fixed shown slots is same has long =
      ap (λ (n : ℕ). has_contents (fixed_slots old d given n) slots) (long ∙ fixed_length fixed shown is same)
      ∙ ap (λ (l : List Slot). has_contents l slots) (sym (same ∙ is)) ∙ has

  -- A plan that is found keeps its slots.
  pub found_keeps : {E : Type 0} (fixed shown : List Slot) (r : Result (Option Planned) E) → fixed ≡ fixed_slots old d given period → shown ≡ fixed →
      IfOk r (λ found. IfSome found (λ plan. has_contents shown plan.slots ≡ true)) →
      IfOk r (λ found. IfSome found (λ plan. length plan.slots ≡ length shown)) →
      IfOk r (λ found. IfSome found (λ plan. keeps_slots old d given plan.slots ≡ true))
  found_keeps fixed shown (Ok None) is same has long = _
  found_keeps fixed shown (Ok (Some plan)) is same has long = kept fixed shown plan.slots is same has long
  found_keeps fixed shown (Err e) is same has long = _
