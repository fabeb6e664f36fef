-- A part of an item's own slots
use Rattle.std.proofs.Common.{ℕ, zero, suc, Bool, List, [], ◌∷◌, inl, inr, arith}
use Rattle.std.proofs.lemmas.Bool.{cases_Bool}
use Rattle.own_slots.specs.Slots.{own_slots, Rises}
use Rattle.own_slots.specs.Parts.{PartLaw}

rises_before : (own : ℕ → Bool) (s : ℕ) (xs : List ℕ) → Rises own (suc s) xs → Rises own s xs
unfolding Rises
rises_before own s [] r = tt
rises_before own s (x ∷ xs) r = (omega (arith, r.0), r.1, r.2)

pub part_law : PartLaw
unfolding own_slots Rises
part_law part own s zero is = tt
part_law part own s (suc n) is = elim (cases_Bool (part s)) [
  | inl y ↦ rw y (omega arith, is s y, part_law part own (suc s) n is)
  | inr n' ↦ rw n' (rises_before own s (own_slots part (suc s) n) (part_law part own (suc s) n is))
]
