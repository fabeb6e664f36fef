-- The values of an item rise through the item's slots.
use Rattle.std.proofs.Common.{◌≡◌, ℕ, zero, suc, Bool, true, List, [], ◌∷◌, arith, inl, inr}
use Rattle.std.proofs.lemmas.Bool.{cases_Bool}
use Rattle.own_slots.specs.Slots.{own_slots, Rises}

rises_before : (own : ℕ → Bool) (s : ℕ) (xs : List ℕ) → Rises own (suc s) xs → Rises own s xs
unfolding Rises
rises_before own s [] r = tt
rises_before own s (x ∷ xs) r = (omega (arith, r.0), r.1, r.2)

pub part_rises : (own part : ℕ → Bool) → ((t : ℕ) → part t ≡ true → own t ≡ true) → (s n : ℕ) → Rises own s (own_slots part s n)
unfolding own_slots Rises
part_rises own part within s zero = tt
part_rises own part within s (suc n) = elim (cases_Bool (part s)) [
  | inl y ↦ rw y (omega arith, within s y, part_rises own part within (suc s) n)
  | inr k ↦ rw k (rises_before own s (own_slots part (suc s) n) (part_rises own part within (suc s) n))
]
