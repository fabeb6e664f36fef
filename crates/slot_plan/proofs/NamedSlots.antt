-- The slots of a plan that serves.
use Rattle.std.specs.Prelude.{ℕ, suc, ◌+◌, ◌%◌, ◌<◌, ◌≤◌, Bool, true, false, IsTrue, List, [], ◌∷◌, ◌++◌, All, length, if◌then◌else◌}
use Rattle.std.proofs.Common.{arith, refl}
use Rattle.std.proofs.lemmas.List.Elements.{All-nil, All-cons, All-get_or}
use Rattle.description_parts.specs.Described.{Described}
use Rattle.description_parts.specs.Tables.{table_count, has_references}
use Rattle.slot_plan.specs.declared.slot.Slot.{Slot}
use Rattle.slot_plan.specs.declared.slot.Slot.TheVariants.{Stream, Pcr, Table, Null}
use Rattle.slot_plan.specs.declared.condition.Condition.TheVariants.{Shape}
use Rattle.slot_plan.specs.Numbered.{numbered}
use Rattle.slot_plan.specs.Conditions.{named_entry, length_entries, name_entries, stream_owner_entries, program_owner_entries, table_owner_entries}
use Rattle.slot_plan.specs.Conditions.{claim_entries}
use Rattle.slot_plan.specs.ServingLaws.{IsNamed, SomeSlotLaw, NamedLaw, NamedInRunLaw, SecondLaw}
use Rattle.slot_plan.proofs.HeldConditions.{holds_both, at_most_holds}
use Rattle.slot_plan.proofs.ConditionLists.{Hold, serves, in_turn, joint_in_turn}

referenced : (b : Bool) (count n : ℕ) → n + 1 ≤ (if b then count else 0) → (n < count) × IsTrue b
referenced true count n le = (omega (arith, le), refl)
referenced false count n le = absurd (omega (arith, le))

is_named : (d : Described) (k : ℕ) (slot : Slot) → Hold (named_entry d k slot ∷ []) → IsNamed d slot
is_named d k (Stream n) hold = omega (arith, at_most_holds Shape 3 k (n + 1) (length d.streams) hold)
is_named d k (Pcr n) hold =
    referenced (has_references d n) (length d.programs) n (at_most_holds Shape 3 k (n + 1) (if has_references d n then length d.programs else 0) hold)
is_named d k (Table n) hold = omega (arith, at_most_holds Shape 3 k (n + 1) (table_count d) hold)
is_named d k Null hold = tt

all_named : (d : Described) (k : ℕ) (slots : List Slot) → Hold (numbered (λ s slot. named_entry d s slot ∷ []) k slots) → All (IsNamed d) slots
all_named d k [] hold = All-nil (IsNamed d)
all_named d k (x ∷ xs) hold =
    let both = holds_both (named_entry d k x ∷ []) (numbered (λ s slot. named_entry d s slot ∷ []) (suc k) xs) hold in
    All-cons (IsNamed d) x xs (is_named d k x both.0) (all_named d (suc k) xs both.1)

pub some_slot_law : SomeSlotLaw
some_slot_law d p serving = omega (arith, (serves d p serving).shape.some_slots)

pub named_law : NamedLaw
named_law d p serving =
    let owners = stream_owner_entries d p ++ (program_owner_entries d p ++ (table_owner_entries d p ++ claim_entries d p)) in
    let lengths = holds_both (length_entries p) (name_entries d p ++ owners) (in_turn d p serving).0 in
    all_named d 0 p.slots (holds_both (name_entries d p) owners lengths.1).0

pub named_in_run_law : NamedInRunLaw
named_in_run_law d p s serving =
    let some = some_slot_law d p serving in
    let within : s % length p.slots < length p.slots = omega (arith, some) in
    All-get_or (IsNamed d) p.slots (s % length p.slots) Null within (named_law d p serving)

pub second_law : SecondLaw
second_law d first second switchable = (joint_in_turn d first second switchable).0
