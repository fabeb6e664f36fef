use Rattle.std.proofs.Common.{◌≡◌, refl, ℕ, ◌%◌, ◌-◌, ◌*◌, List, [], ◌∷◌, false, length, inl, inr, zero, suc, get_or, sym, ap, ◌∙◌}
use Rattle.std.specs.Prelude.{nat_lt}
use Rattle.std.proofs.lemmas.Bool.{cases_Bool}
use Rattle.own_slots.specs.Period.{own}
use Rattle.own_slots.specs.Switch.{joined}
use Rattle.slot_plan.specs.declared.slot.Slot.{Slot}
use Rattle.slot_plan.specs.declared.slot.Item.{Item}
use Rattle.slot_plan.specs.declared.slot.Slot.TheVariants.{Null}
use Rattle.slot_plan.specs.declared.slot.Item.TheVariants.{Stream as StreamItem, Pcr as PcrItem, Table as TableItem, System}
use Rattle.slot_plan.specs.Items.{is_own, marks}
use Rattle.slot_plan.specs.Schedule.{repeated, owned, switched}
use Rattle.slot_plan.proofs.laws.own_slots.Goals as goal

null_is_nobodys : (item : Item) → is_own item Null ≡ false
null_is_nobodys (StreamItem n) = refl
null_is_nobodys (PcrItem n) = refl
null_is_nobodys (TableItem n) = refl
null_is_nobodys (System n) = refl

element : (item : Item) (slots : List Slot) (i n : ℕ) → is_own item (get_or slots i Null) ≡ get_or (marks item slots) i false
element item [] i n = null_is_nobodys item
element item (s ∷ slots) zero n = refl
element item (s ∷ slots) (suc i) n = element item slots i n

same_length : (item : Item) (slots : List Slot) → length (marks item slots) ≡ length slots
same_length item [] = refl
same_length item (s ∷ slots) = ap suc (same_length item slots)

in_period : (item : Item) (slots : List Slot) (s : ℕ) → is_own item (repeated slots s) ≡ own (marks item slots) s
in_period item slots s = element item slots (s % length slots) 0 ∙ ap (λ n. get_or (marks item slots) (s % n) false) (sym (same_length item slots))

pub returns : goal.returns
returns c = record { alone = λ slots item i s. in_period item slots s i; in_turn = λ first second periods item i s. two first second periods item s i }
  where
    two : (first second : List Slot) (periods : ℕ) (item : Item) (s : ℕ) →
        owned (switched first periods second) item s ≡ joined (own (marks item first)) (own (marks item second)) (periods * length first) s
    two first second periods item s = elim (cases_Bool (nat_lt s (periods * length first))) [
      | inl before ↦ rw before (in_period item first s)
      | inr after ↦ rw after (in_period item second (s - periods * length first))
    ]
