-- The references of the last window are counted.
use Rattle.std.proofs.Common.{◌≡◌, ℕ, ◌<◌, ◌≤◌, ◌==◌, Bool, true, false, cond, nat_eq, List, [], ◌∷◌, map, max, Option, Some, None, true≢false, refl}
use Rattle.std.proofs.Common.{sym, ap, subst, ◌∙◌, arith}
use Rattle.std.specs.Prelude.{◌&&◌}
use Rattle.std.proofs.lemmas.Bool.Decides.{nat_tests}
use Rattle.std.specs.Map.{lookup}
use Rattle.indexmap.specs.IndexMap.{insert_entry}
use Rattle.tr101290.specs.Counts.{counted}
use Rattle.tr101290.specs.declared.counts.PcrCounts.{PcrCounts}
use Rattle.tr101290.specs.declared.report.PcrReport.{PcrReport}
use Rattle.packet_times.specs.ClockWindows.{counts_in, counts_of, counts_or_none}
use Rattle.packet_times.specs.Laws.{ClockCountLaw, GreatestInaccuracyLaw, GreatestIntervalLaw, InOrder, Placed, all_counted, greatest, inaccuracy_of, interval_of}
use Rattle.packet_times.specs.Laws.{is_in, reports_in, state_of}

-- 1. The counts of a PID after a reference

pub same_number : (a b : ℕ) → (a == b) ≡ true → a ≡ b
same_number a b e = grind (arith, nat_tests)

itself : (a : ℕ) → (a == a) ≡ true
itself a = by (a == a) refl
  where
    by : (t : Bool) → (a == a) ≡ t → t ≡ true
    by true e = refl
    by false e = absurd (grind (arith, nat_tests))

turned_test : (a b : ℕ) → (a == b) ≡ (b == a)
turned_test a b = by (a == b) (b == a) refl refl
  where
    by : (s t : Bool) → (a == b) ≡ s → (b == a) ≡ t → s ≡ t
    by true true p q = refl
    by false false p q = refl
    by true false p q = absurd (grind (arith, nat_tests))
    by false true p q = absurd (grind (arith, nat_tests))

pub found : {V : Type 0} (pid q : ℕ) (x : V) (es : List (ℕ × V)) (t : Bool) → (q == pid) ≡ t →
    lookup (nat_eq pid) (insert_entry nat_eq es q x) ≡ cond t (Some x) (lookup (nat_eq pid) es)
found pid q x [] t e = rw (turned_test pid q ∙ e) refl
found pid q x (y ∷ es) t e = by t e (q == y.0) refl (found pid q x es t e)
  where
    by : (t : Bool) → (q == pid) ≡ t → (u : Bool) → (q == y.0) ≡ u →
        lookup (nat_eq pid) (insert_entry nat_eq es q x) ≡ cond t (Some x) (lookup (nat_eq pid) es) →
        lookup (nat_eq pid) (cond u ((y.0, x) ∷ es) (y ∷ insert_entry nat_eq es q x)) ≡ cond t (Some x)
        (cond (nat_eq pid y.0) (Some y.1) (lookup (nat_eq pid) es))
    by true e true f h = let g : (pid == y.0) ≡ true = subst (λ (k : ℕ). (k == y.0) ≡ true) (same_number q pid e) f in rw g refl
    by false e true f h = let g : (pid == y.0) ≡ false = subst (λ (k : ℕ). (pid == k) ≡ false) (same_number q y.0 f) (turned_test pid q ∙ e) in rw g refl
    by true e false f h = let g : (pid == y.0) ≡ false = subst (λ (k : ℕ). (k == y.0) ≡ false) (same_number q pid e) f in rw g h
    by false e false f h = ap (λ o. cond (nat_eq pid y.0) (Some y.1) o) h

entry_is : (pid q : ℕ) (report : PcrReport) (es : List (ℕ × PcrCounts)) (t : Bool) → (q == pid) ≡ t →
    counts_of pid (insert_entry nat_eq es q (counted (counts_of q es) report)) ≡ cond t (counted (counts_of pid es) report) (counts_of pid es)
unfolding counts_or_none
entry_is pid q report es true e =
    ap counts_or_none (found pid q (counted (counts_of q es) report) es true e)
    ∙ ap (λ (k : ℕ). counted (counts_of k es) report) (same_number q pid e)
entry_is pid q report es false e = ap counts_or_none (found pid q (counted (counts_of q es) report) es false e)

-- 2. References of windows in order

not_before : (a w : ℕ) → a < w → (a == w) ≡ false
not_before a w less = by (a == w) refl
  where
    by : (t : Bool) → (a == w) ≡ t → t ≡ false
    by false e = refl
    by true e = absurd (omega (arith, same_number a w e, less))

unequal : (a b : ℕ) → (a == b) ≡ false → a ≤ b → a < b
unequal a b other le = grind (arith, nat_tests)

-- References up to a window are in no later window.
none_of_it : (w pid last : ℕ) (rs : List Placed) → InOrder last rs → last < w → reports_in w pid rs ≡ []
unfolding InOrder reports_in
none_of_it w pid last [] order less = refl
none_of_it w pid last (r ∷ rs) order less =
    let before : r.window < w = omega (arith, order.0, less) in
    ap (λ (t : Bool). cond (t && (r.pid == pid)) (r.report ∷ reports_in w pid rs) (reports_in w pid rs)) (not_before r.window w before)
    ∙ none_of_it w pid r.window rs order.1 before

one_more : (t : Bool) (report : PcrReport) (rs : List PcrReport) →
    cond t (counted (all_counted rs) report) (all_counted rs) ≡ all_counted (cond t (report ∷ rs) rs)
unfolding all_counted
one_more true report rs = refl
one_more false report rs = refl

-- The counts of a PID in a window are the counts before the reference, with this reference if it has the PID.
counted_by : (r : Placed) (earlier : List Placed) (pid : ℕ) →
    counts_of pid (counts_in (state_of earlier) r.window) ≡ all_counted (reports_in r.window pid earlier) →
    counts_of pid (state_of (r ∷ earlier)).counts ≡ all_counted (reports_in r.window pid (r ∷ earlier))
unfolding state_of reports_in
counted_by r earlier pid so_far =
    entry_is pid r.pid r.report (counts_in (state_of earlier) r.window) (r.pid == pid) refl
    ∙ ap (λ (c : PcrCounts). cond (r.pid == pid) (counted c r.report) c) so_far
    ∙ one_more (r.pid == pid) r.report (reports_in r.window pid earlier)
    ∙ ap (λ (t : Bool). all_counted (cond (t && (r.pid == pid)) (r.report ∷ reports_in r.window pid earlier) (reports_in r.window pid earlier)))
    (sym (itself r.window))

nothing : (pid : ℕ) → counts_of pid [] ≡ all_counted []
unfolding counts_or_none all_counted
nothing pid = refl

before : (w : ℕ) (earlier : List Placed) (pid : ℕ) → InOrder w earlier → counts_of pid (counts_in (state_of earlier) w) ≡ all_counted (reports_in w pid earlier)
unfolding counts_in InOrder state_of reports_in
before w [] pid order = by (0 == w)
  where
    by : (t : Bool) → counts_of pid (cond t [] []) ≡ all_counted []
    by true = nothing pid
    by false = nothing pid
before w (r ∷ rs) pid order = by (r.window == w) refl (counted_by r rs pid (before r.window rs pid order.1))
  where
    by : (t : Bool) → (r.window == w) ≡ t → counts_of pid (state_of (r ∷ rs)).counts ≡ all_counted (reports_in r.window pid (r ∷ rs)) →
        counts_of pid (cond t (state_of (r ∷ rs)).counts []) ≡ all_counted (reports_in w pid (r ∷ rs))
    by true same all =
        subst (λ (v : ℕ). counts_of pid (state_of (r ∷ rs)).counts ≡ all_counted (reports_in v pid (r ∷ rs))) (same_number r.window w same) all
    by false other all =
        let less : r.window < w = unequal r.window w other order.0 in
        let here : r.window ≤ r.window = omega arith in
        nothing pid ∙ sym (ap all_counted (none_of_it w pid r.window (r ∷ rs) (here, order.1) less))

pub count_law : ClockCountLaw
unfolding InOrder
count_law last earlier pid order = counted_by last earlier pid (before last.window earlier pid order.1)

pub interval_law : GreatestIntervalLaw
unfolding all_counted greatest
interval_law [] = refl
interval_law (report ∷ earlier) = ap (λ (n : ℕ). max n (interval_of report)) (interval_law earlier)

pub inaccuracy_law : GreatestInaccuracyLaw
unfolding all_counted greatest
inaccuracy_law [] = refl
inaccuracy_law (report ∷ earlier) = ap (λ (n : ℕ). max n (inaccuracy_of report)) (inaccuracy_law earlier)
