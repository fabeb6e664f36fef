-- The slots and the certificate that make a plan.
use Rattle.std.proofs.Common.{◌≡◌, ℕ, suc, ◌≤◌, true, false, List, [], ◌∷◌, length, nat_lt, None, refl, arith}
use Rattle.std.proofs.lemmas.Bool.Decides.{nat_tests}
use Rattle.slot_plan.specs.declared.slot.Slot.{Slot}
use Rattle.slot_plan.specs.Numbered.{numbered}
use Rattle.slot_plan.specs.Planned.{Certified, has_small_numbers, plan_error}

pub length_numbered : {A B : Type 0} (f : ℕ → A → B) (k : ℕ) (xs : List A) → length (numbered (λ i x. f i x ∷ []) k xs) ≡ length xs
length_numbered f k [] = refl
length_numbered f k (x ∷ xs) = omega (arith, length_numbered f (suc k) xs)

not_over : (most n : ℕ) → n ≤ most → nat_lt most n ≡ false
not_over most n le = grind (arith, nat_tests)

pub no_error : (slots : List Slot) (c : Certified) → length slots ≤ 99999 → length c.streams ≤ 256 → length c.programs ≤ 256 → has_small_numbers c ≡ true →
    plan_error slots c ≡ None
no_error slots c few streams programs small =
    rw (not_over 99999 (length slots) few, not_over 256 (length c.streams) streams, not_over 256 (length c.programs) programs, small) refl
