-- The members of the lists of PIDs.
use Rattle.std.proofs.Common.{◌≡◌, ◌∙◌, sym, ℕ, ◌==◌, Bool, true, false, cond, List, [], ◌∷◌, ◌++◌, map, refl, ap, subst, arith}
use Rattle.std.specs.Prelude.{◌&&◌, ◌||◌, not}
use Rattle.std.proofs.lemmas.Bool.Decides.{nat_tests}
use Rattle.std.proofs.lemmas.List.Folds.{list_any-append}
use Rattle.tr101290.specs.declared.pid_windows.PidCounts.{PidCounts}
use Rattle.tr101290.specs.Packets.{is_among, is_reserved, unreferenced, unreferenced_pids, has_packets, with_missing, missing_pids}
use Rattle.tr101290.specs.ReferenceLaws.{UnreferencedLaw, MissingLaw}

same_number : (a b : ℕ) → (a == b) ≡ true → a ≡ b
same_number a b e = grind (arith, nat_tests)

or_false : (a : Bool) → a || false ≡ a
or_false true = refl
or_false false = refl

-- 1. PIDs with packets

-- A list that has k if a test is true has q as a member if q is k and the test is true.
one : (t : Bool) (k q : ℕ) → is_among q (cond t (k ∷ []) []) ≡ (k == q) && t
one true k q = by (k == q)
  where
    by : (e : Bool) → e || false ≡ e && true
    by true = refl
    by false = refl
one false k q = by (k == q)
  where
    by : (e : Bool) → false ≡ e && false
    by true = refl
    by false = refl

abbrev has_to : List ℕ → ℕ → Bool
has_to referenced pid = not (is_reserved pid) && not (is_among pid referenced)

reported : (referenced : List ℕ) (k q : ℕ) (m : Bool) → ((k == q) && has_to referenced k) || (m && has_to referenced q) ≡ ((k == q) || m) && has_to referenced q
reported referenced k q m = by (k == q) refl
  where
    by_test : (h m : Bool) → h || (m && h) ≡ h
    by_test true m = refl
    by_test false true = refl
    by_test false false = refl

    by : (e : Bool) → (k == q) ≡ e → (e && (not (is_reserved k) && not (is_among k referenced))) || (m && (not (is_reserved q) && not (is_among q referenced)))
        ≡ (e || m) && (not (is_reserved q) && not (is_among q referenced))
    by true e = subst
        (λ (p : ℕ). (not (is_reserved p) && not (is_among p referenced)) || (m && (not (is_reserved q) && not (is_among q referenced))) ≡
        (not (is_reserved q) && not (is_among q referenced)))
        (sym (same_number k q e)) (by_test (not (is_reserved q) && not (is_among q referenced)) m)
    by false e = refl

pub unreferenced_law : UnreferencedLaw
unreferenced_law referenced [] q = refl
unreferenced_law referenced (entry ∷ entries) q =
    list_any-append (λ other. other == q) (unreferenced referenced entry.0) (unreferenced_pids referenced entries)
    ∙ ap (λ (b : Bool). b || is_among q (unreferenced_pids referenced entries)) (one (has_to referenced entry.0) entry.0 q)
    ∙ ap (λ (b : Bool). ((entry.0 == q) && has_to referenced entry.0) || b) (unreferenced_law referenced entries q)
    ∙ reported referenced entry.0 q (is_among q (map (λ e. e.0) entries))

-- 2. PIDs without packets

-- One more PID adds this PID to the list if it has no packets.
one_more : (entries : List (ℕ × PidCounts)) (found : List ℕ) (p q : ℕ) →
    is_among q (with_missing entries found p) ≡ is_among q found || ((p == q) && not (has_packets entries q))
one_more entries found p q = by (p == q) refl
  where
    other : (t : Bool) → (p == q) ≡ false → is_among q (cond t (found ++ p ∷ []) found) ≡ is_among q found || false
    other true e = list_any-append (λ other. other == q) found (p ∷ []) ∙ rw e refl
    other false e = sym (or_false (is_among q found))

    itself : (q == q) ≡ true
    itself = test (q == q) refl
      where
        test : (t : Bool) → (q == q) ≡ t → t ≡ true
        test true e = refl
        test false e = absurd (grind (arith, nat_tests))

    same : (n a : Bool) → is_among q found ≡ a → is_among q (cond (n && not a) (found ++ q ∷ []) found) ≡ a || n
    same true true e = e
    same true false e = list_any-append (λ other. other == q) found (q ∷ []) ∙ rw (e, itself) refl
    same false true e = e
    same false false e = e

    by : (e : Bool) → (p == q) ≡ e → is_among q (with_missing entries found p) ≡ is_among q found || (e && not (has_packets entries q))
    by true e = subst (λ (k : ℕ). is_among q (with_missing entries found k) ≡ is_among q found || not (has_packets entries q)) (sym (same_number p q e))
        (same (not (has_packets entries q)) (is_among q found) refl)
    by false e = other (not (has_packets entries p) && not (is_among p found)) e

joined : (a e m n : Bool) → (a || (e && n)) || (m && n) ≡ a || ((e || m) && n)
joined true e m n = refl
joined false true true true = refl
joined false true true false = refl
joined false true false true = refl
joined false true false false = refl
joined false false m n = refl

members : (entries : List (ℕ × PidCounts)) (found pids : List ℕ) (q : ℕ) →
    is_among q (missing_pids entries found pids) ≡ is_among q found || (is_among q pids && not (has_packets entries q))
unfolding missing_pids
members entries found [] q = sym (or_false (is_among q found))
members entries found (p ∷ pids) q =
    members entries (with_missing entries found p) pids q
    ∙ ap (λ (b : Bool). b || (is_among q pids && not (has_packets entries q))) (one_more entries found p q)
    ∙ joined (is_among q found) (p == q) (is_among q pids) (not (has_packets entries q))

pub missing_law : MissingLaw
missing_law entries referenced q = members entries [] referenced q
