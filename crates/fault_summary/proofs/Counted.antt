-- Each row counts its own faults.
use Rattle.std.proofs.Common.{◌≡◌, ◌∙◌, ℕ, ◌==◌, ◌+◌, ◌-◌, ◌^◌, min, Bool, true, false, cond, nat_eq, List, [], ◌∷◌, ◌++◌, filter, length, map, Option, Some, None}
use Rattle.std.proofs.Common.{refl, ap, subst, arith, length-append}
use Rattle.std.specs.List.{filter_map}
use Rattle.std.specs.Map.{lookup}
use Rattle.std.proofs.lemmas.Bool.Decides.{nat_tests}
use Rattle.indexmap.specs.IndexMap.{insert_entry}
use Rattle.events.specs.declared.check_counts.CheckCount.{CheckCount}
use Rattle.events.specs.declared.fault.Fault.{Fault}
use Rattle.events.specs.declared.summary.FaultTotals.{FaultTotals}
use Rattle.events.specs.CheckCounts.{fails, no_faults, row_with}
use Rattle.fault_summary.specs.FaultRows.{RowEntries, fault_key, no_rows, row_at, totals_after}
use Rattle.fault_summary.specs.FaultRows as rows
use Rattle.fault_summary.specs.SyncRuns.{is_loss, loss_of, with_loss}
use Rattle.fault_summary.specs.Laws.{CheckLaw, CountsFaults, RowLaw, Seen, count_of, faults_in, faults_of, loss_if, row_of, run_after, summary_after}
use Rattle.fault_summary.specs.Laws.{totals_in, with_losses}
use Rattle.fault_summary.specs.Summaries.{SummaryState, with_fault_if}
use Rattle.fault_summary.specs.SyncRuns as runs
use Rattle.fault_summary.specs.declared.sync_runs.SyncRun.{SyncRun}

-- 1. Checks

one_more : (fault : Fault) (earlier : List Fault) (row : CheckCount) → row_with fault (row_of earlier row) ≡ row_of (fault ∷ earlier) row
unfolding count_of
one_more fault earlier row = by (fails row.check fault) refl
  where
    by : (t : Bool) → fails row.check fault ≡ t → row_with fault (row_of earlier row) ≡ row_of (fault ∷ earlier) row
    by true e = rw e refl
    by false e = rw e refl

all_more : (fault : Fault) (earlier : List Fault) (rows : List CheckCount) →
    map (row_with fault) (map (row_of earlier) rows) ≡ map (row_of (fault ∷ earlier)) rows
all_more fault earlier [] = refl
all_more fault earlier (row ∷ rows) =
    ap (λ (r : CheckCount). r ∷ map (row_with fault) (map (row_of earlier) rows)) (one_more fault earlier row)
    ∙ ap (λ (rs : List CheckCount). row_of (fault ∷ earlier) row ∷ rs) (all_more fault earlier rows)

-- the rows of all checks after faults
unfoldable rows_after : List Fault → List CheckCount
rows_after [] = no_faults.rows
rows_after (fault ∷ earlier) = map (row_with fault) (rows_after earlier)

own_rows : (faults : List Fault) → rows_after faults ≡ map (row_of faults) no_faults.rows
unfolding rows_after count_of
own_rows [] = refl
own_rows (fault ∷ earlier) =
    ap (λ (rs : List CheckCount). map (row_with fault) rs) (own_rows earlier) ∙ all_more fault earlier no_faults.rows

-- the packets in a row, and the rows, after events
summary_run : (varies : Bool) (seen : List Seen) → (summary_after varies seen).run ≡ run_after (faults_in seen)
unfolding summary_after run_after with_fault_if
summary_run varies [] = refl
summary_run varies (s ∷ earlier) = by s.1 refl (summary_run varies earlier)
  where
    by : (o : Option Fault) → s.1 ≡ o → (summary_after varies earlier).run ≡ run_after (faults_in earlier) →
        (summary_after varies (s ∷ earlier)).run ≡ run_after (faults_in (s ∷ earlier))
    by None e is = rw e is
    by (Some fault) e is = rw e (ap (λ (run : SyncRun). runs.with_fault run fault) is)

counted_fault : (t : Bool) (fault : Fault) (s : SummaryState) (earlier : List Fault) → is_loss s.run fault ≡ t → s.counts.rows ≡ rows_after (with_losses earlier) →
    map (row_with fault) (with_loss s.counts s.run fault).rows ≡ map (row_with fault) (rows_after (loss_if t fault (with_losses earlier)))
unfolding rows_after loss_if
counted_fault true fault s earlier i is = rw i (ap (λ (rs : List CheckCount). map (row_with fault) (map (row_with (loss_of fault)) rs)) is)
counted_fault false fault s earlier i is = rw i (ap (λ (rs : List CheckCount). map (row_with fault) rs) is)

summary_rows : (varies : Bool) (seen : List Seen) → (summary_after varies seen).counts.rows ≡ rows_after (with_losses (faults_in seen))
unfolding summary_after rows_after with_losses loss_if with_fault_if
summary_rows varies [] = refl
summary_rows varies (s ∷ earlier) = by s.1 refl (summary_rows varies earlier)
  where
    by : (o : Option Fault) → s.1 ≡ o → (summary_after varies earlier).counts.rows ≡ rows_after (with_losses (faults_in earlier)) →
        (summary_after varies (s ∷ earlier)).counts.rows ≡ rows_after (with_losses (faults_in (s ∷ earlier)))
    by None e is = rw e is
    by (Some fault) e is =
        rw e (counted_fault (is_loss (run_after (faults_in earlier)) fault) fault (summary_after varies earlier) (faults_in earlier)
        (ap (λ (run : SyncRun). is_loss run fault) (summary_run varies earlier)) is)

pub check_law : CheckLaw
check_law varies seen = summary_rows varies seen ∙ own_rows (with_losses (faults_in seen))

-- a count has the number of its faults, and the places of the first and of the last
number : (faults : List Fault) → (count_of faults).faults ≡ min (length faults) (2 ^ 64 - 1)
unfolding count_of
number [] = refl
number (fault ∷ earlier) = let before : (count_of earlier).faults ≡ min (length earlier) (2 ^ 64 - 1) = number earlier in grind (arith)

some_before : (later : List Fault) (fault : Fault) → ((count_of (later ++ fault ∷ [])).faults == 0) ≡ false
some_before later fault =
    let is : (count_of (later ++ fault ∷ [])).faults ≡ min (length (later ++ fault ∷ [])) (2 ^ 64 - 1) = number (later ++ fault ∷ []) in
    let more : length (later ++ fault ∷ []) ≡ length later + 1 = length-append later (fault ∷ []) in
    grind (arith, nat_tests)

first : (later : List Fault) (fault : Fault) → (count_of (later ++ fault ∷ [])).first ≡ fault.packet
unfolding count_of
first [] fault = refl
first (f ∷ later) fault = rw (some_before later fault) (first later fault)

from : (later : List Fault) (fault : Fault) → (count_of (later ++ fault ∷ [])).from ≡ fault.from
unfolding count_of
from [] fault = refl
from (f ∷ later) fault = rw (some_before later fault) (from later fault)

pub counts_faults : CountsFaults
unfolding count_of
counts_faults = record { number = number; first = first; from = from; last = λ fault earlier. refl; to = λ fault earlier. refl }

-- 2. Kinds and sources

same_number : (a b : ℕ) → (a == b) ≡ true → a ≡ b
same_number a b e = grind (arith, nat_tests)

turned_test : (a b : ℕ) → (a == b) ≡ (b == a)
turned_test a b = by (a == b) (b == a) refl refl
  where
    by : (s t : Bool) → (a == b) ≡ s → (b == a) ≡ t → s ≡ t
    by true true p q = refl
    by false false p q = refl
    by true false p q = absurd (grind (arith, nat_tests))
    by false true p q = absurd (grind (arith, nat_tests))

-- The entry of a key after an entry is inserted, for the same key or another key
found : (key k : ℕ) (x : FaultTotals) (es : List (ℕ × FaultTotals)) (t : Bool) → (k == key) ≡ t →
    lookup (nat_eq key) (insert_entry nat_eq es k x) ≡ cond t (Some x) (lookup (nat_eq key) es)
found key k x [] t e = rw (turned_test key k ∙ e) refl
found key k x (y ∷ es) t e = by t e (k == y.0) refl (found key k x es t e)
  where
    by : (t : Bool) → (k == key) ≡ t → (u : Bool) → (k == y.0) ≡ u →
        lookup (nat_eq key) (insert_entry nat_eq es k x) ≡ cond t (Some x) (lookup (nat_eq key) es) →
        lookup (nat_eq key) (cond u ((y.0, x) ∷ es) (y ∷ insert_entry nat_eq es k x)) ≡ cond t (Some x)
        (cond (nat_eq key y.0) (Some y.1) (lookup (nat_eq key) es))
    by true e true f h = let g : (key == y.0) ≡ true = subst (λ (n : ℕ). (n == y.0) ≡ true) (same_number k key e) f in rw g refl
    by false e true f h = let g : (key == y.0) ≡ false = subst (λ (n : ℕ). (key == n) ≡ false) (same_number k y.0 f) (turned_test key k ∙ e) in rw g refl
    by true e false f h = let g : (key == y.0) ≡ false = subst (λ (n : ℕ). (n == y.0) ≡ false) (same_number k key e) f in rw g h
    by false e false f h = ap (λ (o : Option FaultTotals). cond (nat_eq key y.0) (Some y.1) o) h

unfoldable entries_after : List Fault → RowEntries
entries_after [] = no_rows
entries_after (fault ∷ earlier) = rows.with_fault (entries_after earlier) fault

summary_entries : (varies : Bool) (seen : List Seen) → (summary_after varies seen).rows ≡ entries_after (faults_in seen)
unfolding summary_after entries_after with_fault_if
summary_entries varies [] = refl
summary_entries varies (s ∷ earlier) = by s.1 refl (summary_entries varies earlier)
  where
    by : (o : Option Fault) → s.1 ≡ o → (summary_after varies earlier).rows ≡ entries_after (faults_in earlier) →
        (summary_after varies (s ∷ earlier)).rows ≡ entries_after (faults_in (s ∷ earlier))
    by None e is = rw e is
    by (Some fault) e is = rw e (ap (λ (es : RowEntries). rows.with_fault es fault) is)

own_entry : (key : ℕ) (faults : List Fault) → row_at (entries_after faults) key ≡ totals_in (faults_of key faults)
unfolding entries_after totals_in
own_entry key [] = refl
own_entry key (fault ∷ earlier) =
    found key (fault_key fault) (totals_after (row_at (entries_after earlier) (fault_key fault)) fault) (entries_after earlier) (fault_key fault == key) refl
    ∙ by (fault_key fault == key) refl (own_entry key earlier)
  where
    by : (t : Bool) → (fault_key fault == key) ≡ t → row_at (entries_after earlier) key ≡ totals_in (faults_of key earlier) →
        cond t (Some (totals_after (row_at (entries_after earlier) (fault_key fault)) fault)) (row_at (entries_after earlier) key)
        ≡ totals_in (cond t (fault ∷ faults_of key earlier) (faults_of key earlier))
    by true e rest =
        ap (λ (k : ℕ). Some (totals_after (row_at (entries_after earlier) k) fault)) (same_number (fault_key fault) key e)
        ∙ ap (λ (before : Option FaultTotals). Some (totals_after before fault)) rest
    by false e rest = rest

pub row_law : RowLaw
row_law varies key seen = ap (λ (es : RowEntries). row_at es key) (summary_entries varies seen) ∙ own_entry key (faults_in seen)
