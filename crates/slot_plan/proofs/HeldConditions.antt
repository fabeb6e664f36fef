-- If no condition fails, each condition is true.
use Rattle.std.specs.Prelude.{ℕ, zero, suc, ◌+◌, ◌<◌, ◌≤◌, Bool, true, false, List, [], ◌∷◌, ◌++◌, None, length, get_or}
use Rattle.std.proofs.Common.{◌≡◌, refl, arith, inl, inr}
use Rattle.std.proofs.lemmas.Bool.{cases_Bool, leb-true}
use Rattle.std.proofs.lemmas.Bool.Decides.{nat_tests}
use Rattle.own_slots.specs.Period.{per_period}
use Rattle.description_parts.specs.Described.{Described}
use Rattle.description_parts.specs.Tables.{table_kinds, clock_of, has_references, only_if}
use Rattle.slot_plan.specs.declared.slot.Item.TheVariants.{Stream, Pcr, Table}
use Rattle.slot_plan.specs.declared.condition.Condition.{Condition}
use Rattle.slot_plan.specs.declared.condition.Condition.TheVariants.{Shape}
use Rattle.slot_plan.specs.Numbered.{numbered}
use Rattle.slot_plan.specs.Planned.{Planned}
use Rattle.slot_plan.specs.Items.{marks}
use Rattle.slot_plan.specs.Entries.{Entry, at_most, equal_counts, entry_holds, first_failing}
use Rattle.slot_plan.specs.Conditions.{shape_entries, length_entries, name_entries, stream_owner_entries, program_owner_entries, table_owner_entries}
use Rattle.slot_plan.specs.Conditions.{claim_entries, clock_owner_entries, owner_entry}
use Rattle.slot_plan.specs.Shape.{IsShaped}
use Rattle.slot_plan.proofs.Clocks.{clock_referenced, clock_within}

-- If no condition of a list fails, the first is true and none of the rest fails.
pub holds_first : (e : Entry) (es : List Entry) → first_failing (e ∷ es) ≡ None → (entry_holds e ≡ true) × (first_failing es ≡ None)
holds_first e es none = elim (cases_Bool (entry_holds e)) [
  | inl yes_holds ↦ (yes_holds, rw yes_holds at none)
  | inr fails ↦ absurd (let h = rw fails at none in cc)
]

-- If no condition of two joined lists fails, none fails in either list.
pub holds_both : (xs ys : List Entry) → first_failing (xs ++ ys) ≡ None → (first_failing xs ≡ None) × (first_failing ys ≡ None)
holds_both [] ys none = (refl, none)
holds_both (x ∷ xs) ys none =
    let h = holds_first x (xs ++ ys) none in let more = holds_both xs ys h.1 in
    (rw (h.0) more.0, more.1)

-- The conditions of one element do not fail.
pub holds_at : {A : Type 0} (part : ℕ → A → List Entry) (k : ℕ) (xs : List A) (i : ℕ) (d : A) → first_failing (numbered part k xs) ≡ None → i < length xs →
    first_failing (part (k + i) (get_or xs i d)) ≡ None
holds_at part k [] i d none lt = absurd (omega arith)
holds_at part k (x ∷ xs) zero d none lt =
    let e : k + zero ≡ k = omega arith in rw e ((holds_both (part k x) (numbered part (suc k) xs) none).0)
holds_at part k (x ∷ xs) (suc i) d none lt =
    let e : suc k + i ≡ k + suc i = omega arith in
    rw (← e) (holds_at part (suc k) xs i d ((holds_both (part k x) (numbered part (suc k) xs) none).1) (omega arith))

-- The conditions of one element do not fail, if they depend on its number alone.
pub holds_number : {A : Type 0} (part : ℕ → List Entry) (k : ℕ) (xs : List A) (i : ℕ) → first_failing (numbered (λ j _. part j) k xs) ≡ None → i < length xs →
    first_failing (part (k + i)) ≡ None
holds_number part k [] i none lt = absurd (omega arith)
holds_number part k (x ∷ xs) zero none lt =
    let e : k + zero ≡ k = omega arith in rw e ((holds_both (part k) (numbered (λ j _. part j) (suc k) xs) none).0)
holds_number part k (x ∷ xs) (suc i) none lt =
    let e : suc k + i ≡ k + suc i = omega arith in
    rw (← e) (holds_number part (suc k) xs i ((holds_both (part k) (numbered (λ j _. part j) (suc k) xs) none).1) (omega arith))

pub holds_item : {A : Type 0} (part : ℕ → List Entry) (xs : List A) (i : ℕ) → first_failing (numbered (λ j _. part j) 0 xs) ≡ None → i < length xs →
    first_failing (part i) ≡ None
holds_item part xs i none lt = let e : 0 + i ≡ i = omega arith in rw e at (holds_number part 0 xs i none lt)

-- The left number is at most the right number.
pub at_most_holds : (condition : Condition) (part item left right : ℕ) → first_failing (at_most condition part item left right ∷ []) ≡ None → left ≤ right
at_most_holds condition part item left right none = leb-true left right (holds_first (at_most condition part item left right) [] none).0

-- The condition on a program with clock references does not fail.
holds_if : (b : Bool) (e : Entry) → b ≡ true → first_failing (only_if b e) ≡ None → first_failing (e ∷ []) ≡ None
holds_if true e is none = none
holds_if false e is none = absurd (cc)

-- A program's clock has a slot.
clock_owned : (d : Described) (p : Planned) (i : ℕ) → first_failing (program_owner_entries d p) ≡ None → i < length d.programs →
    0 < per_period (marks (Pcr (clock_of d i)) p.slots)
clock_owned d p i none lt = let clock = clock_of d i in
    at_most_holds Shape 4 (length d.streams + clock) 1 (per_period (marks (Pcr clock) p.slots))
    (holds_if (has_references d clock) (owner_entry p (length d.streams + clock) (Pcr clock)) (clock_referenced d i)
    (holds_item (clock_owner_entries d p) d.programs clock none (clock_within d i lt)))

-- The shape of the plan, as plain facts
pub shaped : (d : Described) (p : Planned) → first_failing (shape_entries d p) ≡ None → IsShaped d p
shaped d p none =
    let n = name_entries d p in let st = stream_owner_entries d p in let pr = program_owner_entries d p in let ta = table_owner_entries d p in let cl =
    claim_entries d p in
    let few = at_most Shape 2 0 (length p.slots) 65536 in let last = equal_counts Shape 6 0 (length p.certificate.programs) (length d.programs) in
    let lengths = holds_both (length_entries p) (n ++ (st ++ (pr ++ (ta ++ cl)))) none in
    let names = holds_both n (st ++ (pr ++ (ta ++ cl))) lengths.1 in
    let streams = holds_both st (pr ++ (ta ++ cl)) names.1 in
    let programs = holds_both pr (ta ++ cl) streams.1 in
    let tables = holds_both ta cl programs.1 in
    let some = holds_first (at_most Shape 1 0 1 (length p.slots)) (few ∷ []) lengths.0 in
    let second = holds_first few [] some.1 in
    let stream_count = holds_first (equal_counts Shape 5 0 (length p.certificate.streams) (length d.streams)) (last ∷ []) tables.1 in
    let program_count = holds_first last [] stream_count.1 in
    record {
      some_slots = grind (arith, nat_tests, some.0);
      slot_bound = grind (arith, nat_tests, second.0);
      streams_own =
          λ i lt. at_most_holds Shape 4 i 1 (per_period (marks (Stream i) p.slots))
          (holds_item (λ j. owner_entry p j (Stream j) ∷ []) d.streams i streams.0 lt);
      programs_own = λ i lt. clock_owned d p i programs.0 lt;
      tables_own = λ t lt. at_most_holds Shape 4 (length d.streams + length d.programs + t) 1 (per_period (marks (Table t) p.slots))
          (holds_item (λ j. owner_entry p (length d.streams + length d.programs + j) (Table j) ∷ []) (table_kinds d) t tables.0 lt);
      stream_claims = grind (arith, nat_tests, stream_count.0);
      program_claims = grind (arith, nat_tests, program_count.0);
    }
