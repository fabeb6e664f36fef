-- Private tables that equal the declared tables, one after another
use Rattle.std.proofs.Common.{◌≡◌, ℕ, zero, suc, true, Option, Some, None, List, [], ◌∷◌, slice_get, sym, refl, ap₂}
use Rattle.description_parts.specs.Described.{DescribedEntry, DescribedTable}
use Rattle.std.specs.Str.{bytes_eq}
use Rattle.std.proofs.lemmas.Bool.{and_parts, eqb-true}
use Rattle.stream_jobs.specs.Jobs.{IsTable, TablesInTurn, are_sections, entry_of, has_entry, is_table}
use Rattle.job_programs.specs.JobTables.{JobTableView}
use Rattle.stream_jobs.proofs.Agreement.{same_bytes, some_same}

same_sections : (xs ys : List (List ℕ)) → are_sections xs ys ≡ true → xs ≡ ys
unfolding are_sections
same_sections [] [] e = refl
same_sections [] (y ∷ ys) e = absurd cc
same_sections (x ∷ xs) [] e = absurd cc
same_sections (x ∷ xs) (y ∷ ys) e =
    let both = and_parts (bytes_eq x y) (are_sections xs ys) e in
    ap₂ (λ (z : List ℕ) (zs : List (List ℕ)). z ∷ zs) (same_bytes x y both.0) (same_sections xs ys both.1)

same_entry : (entry : Option DescribedEntry) (t : JobTableView) → has_entry entry t ≡ true → entry ≡ Some (entry_of t)
unfolding has_entry
same_entry None t e = absurd cc
same_entry (Some x) t e =
    let all = and_parts _ _ e in
    let after_program = and_parts _ _ all.1 in
    rw (
      sym (eqb-true x.program t.program all.0),
      sym (eqb-true x.stream_type t.stream_type after_program.0),
      sym (same_bytes x.descriptors t.descriptors after_program.1),
    ) refl

-- A table that passes the test is the declared table.
pub table_is : (s : DescribedTable) (t : JobTableView) → is_table s t ≡ true → IsTable s t
unfolding is_table
table_is s t e =
    let all = and_parts _ _ e in
    let after_pid = and_parts _ _ all.1 in
    record { pid = eqb-true _ _ all.0; sections = same_sections s.sections t.sections after_pid.0; entry = same_entry s.entry t after_pid.1 }

pub at_table : (ss : List DescribedTable) (ts : List JobTableView) → TablesInTurn ss ts →
    (k : ℕ) (s : DescribedTable) (t : JobTableView) → slice_get ss k ≡ Some s → slice_get ts k ≡ Some t → IsTable s t
unfolding TablesInTurn
at_table [] ts are k s t here there = absurd cc
at_table (x ∷ ss) [] are k s t here there = absurd cc
at_table (x ∷ ss) (y ∷ ts) are zero s t here there = rw (sym (some_same x s here), sym (some_same y t there)) are.0
at_table (x ∷ ss) (y ∷ ts) are (suc k) s t here there = at_table ss ts are.1 k s t here there
