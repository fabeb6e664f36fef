-- Places are marked one by one; the result is the late places of each PID.
use Rattle.std.proofs.Common.{◌≡◌, ℕ, ◌-◌, ◌*◌, ◌==◌, Bool, true, false, cond, nat_eq, List, [], ◌∷◌, ◌++◌, map, filter, Option, Some, None, refl, sym, ap, ap₂}
use Rattle.std.proofs.Common.{subst, ◌∙◌, arith, append_assoc}
use Rattle.std.specs.List.{zip}
use Rattle.std.specs.Map.{lookup}
use Rattle.std.proofs.lemmas.List.{append-nil, map-append}
use Rattle.std.proofs.lemmas.List.Elements.{filter-append}
use Rattle.std.proofs.lemmas.Bool.Decides.{nat_tests}
use Rattle.indexmap.specs.IndexMap.{insert_entry}
use Rattle.monitor.specs.declared.recurrence.LatePacket.{LatePacket}
use Rattle.monitor.specs.Gaps.{is_long, late}
use Rattle.monitor.specs.Recurrences.{RecurrenceState, late_at, marked, marked_all, no_marks}
use Rattle.monitor.specs.Laws.{GapsOfEachPid, late_of, places_of}

pub same_number : (a b : ℕ) → (a == b) ≡ true → a ≡ b
same_number a b e = grind (arith, nat_tests)

pub turned_test : (a b : ℕ) → (a == b) ≡ (b == a)
turned_test a b = by (a == b) (b == a) refl refl
  where
    by : (s t : Bool) → (a == b) ≡ s → (b == a) ≡ t → s ≡ t
    by true true p q = refl
    by false false p q = refl
    by true false p q = absurd (grind (arith, nat_tests))
    by false true p q = absurd (grind (arith, nat_tests))

-- The place x, if it is late after the place before it
abbrev pub step : ℕ → Option ℕ → ℕ → List ℕ
step limit_times_rate None x = []
step limit_times_rate (Some before) x = cond (is_long limit_times_rate (x - before)) (x ∷ []) []

abbrev pub after : ℕ → Option ℕ → List ℕ → List ℕ
after limit_times_rate last [] = []
after limit_times_rate last (x ∷ xs) = step limit_times_rate last x ++ after limit_times_rate (Some x) xs

-- The value of a PID after an insert
pub found_if : (pid q x : ℕ) (es : List (ℕ × ℕ)) (t : Bool) → (q == pid) ≡ t →
    lookup (nat_eq pid) (insert_entry nat_eq es q x) ≡ cond t (Some x) (lookup (nat_eq pid) es)
found_if pid q x [] t e = rw (turned_test pid q ∙ e) refl
found_if pid q x (y ∷ es) t e = by t e (q == y.0) refl (found_if pid q x es t e)
  where
    by : (t : Bool) → (q == pid) ≡ t → (u : Bool) → (q == y.0) ≡ u →
        lookup (nat_eq pid) (insert_entry nat_eq es q x) ≡ cond t (Some x) (lookup (nat_eq pid) es) →
        lookup (nat_eq pid) (cond u ((y.0, x) ∷ es) (y ∷ insert_entry nat_eq es q x)) ≡ cond t (Some x)
        (cond (nat_eq pid y.0) (Some y.1) (lookup (nat_eq pid) es))
    by true e true f h = let g : (pid == y.0) ≡ true = subst (λ (k : ℕ). (k == y.0) ≡ true) (same_number q pid e) f in rw g refl
    by false e true f h = let g : (pid == y.0) ≡ false = subst (λ (k : ℕ). (pid == k) ≡ false) (same_number q y.0 f) (turned_test pid q ∙ e) in rw g refl
    by true e false f h = let g : (pid == y.0) ≡ false = subst (λ (k : ℕ). (k == y.0) ≡ false) (same_number q pid e) f in rw g h
    by false e false f h = ap (λ (o : Option ℕ). cond (nat_eq pid y.0) (Some y.1) o) h

pub late_append : (pid : ℕ) (xs ys : List LatePacket) → late_of pid (xs ++ ys) ≡ late_of pid xs ++ late_of pid ys
late_append pid xs ys = ap (map _) (filter-append _ xs ys) ∙ map-append _ (filter _ xs) (filter _ ys)

late_here : (limit_times_rate pid q x : ℕ) (o : Option ℕ) → (t : Bool) → (q == pid) ≡ t →
    late_of pid (late_at limit_times_rate q o x) ≡ cond t (step limit_times_rate o x) []
unfolding late_at
late_here limit_times_rate pid q x None true e = refl
late_here limit_times_rate pid q x None false e = refl
late_here limit_times_rate pid q x (Some b) true e = by (is_long limit_times_rate (x - b))
  where
    by : (u : Bool) → late_of pid (cond u (record { pid = q; packet = x } ∷ []) []) ≡ cond u (x ∷ []) []
    by true = rw e refl
    by false = refl
late_here limit_times_rate pid q x (Some b) false e = by (is_long limit_times_rate (x - b))
  where
    by : (u : Bool) → late_of pid (cond u (record { pid = q; packet = x } ∷ []) []) ≡ []
    by true = rw e refl
    by false = refl

pub marks_late : (pid : ℕ) (s : RecurrenceState) (places : List (ℕ × ℕ)) →
    late_of pid (marked_all s places).late ≡ late_of pid s.late ++ after s.limit_times_rate (lookup (nat_eq pid) s.last) (places_of pid places)
unfolding marked_all
marks_late pid s [] = sym (append-nil (late_of pid s.late))
marks_late pid s (p ∷ places) =
    marks_late pid (marked s p.0 p.1) places
    ∙ ap (λ (xs : List ℕ). xs ++ after s.limit_times_rate (lookup (nat_eq pid) (insert_entry nat_eq s.last p.0 p.1)) (places_of pid places))
    (late_append pid s.late (late_at s.limit_times_rate p.0 (lookup (nat_eq p.0) s.last) p.1))
    ∙ by (p.0 == pid) refl
  where
    by : (t : Bool) → (p.0 == pid) ≡ t →
        (late_of pid s.late ++ late_of pid (late_at s.limit_times_rate p.0 (lookup (nat_eq p.0) s.last) p.1))
        ++ after s.limit_times_rate (lookup (nat_eq pid) (insert_entry nat_eq s.last p.0 p.1)) (places_of pid places)
        ≡ late_of pid s.late
        ++ after s.limit_times_rate (lookup (nat_eq pid) s.last)
        (map (λ (q : ℕ × ℕ). q.1) (cond t (p ∷ filter (λ (q : ℕ × ℕ). q.0 == pid) places) (filter (λ (q : ℕ × ℕ). q.0 == pid) places)))
    by true e =
        let o : lookup (nat_eq p.0) s.last ≡ lookup (nat_eq pid) s.last = ap (λ (k : ℕ). lookup (nat_eq k) s.last) (same_number p.0 pid e) in
        ap₂ (λ (xs : List ℕ) (l : Option ℕ). (late_of pid s.late ++ xs) ++ after s.limit_times_rate l (places_of pid places))
        (late_here s.limit_times_rate pid p.0 p.1 (lookup (nat_eq p.0) s.last) true e ∙ ap (λ (l : Option ℕ). step s.limit_times_rate l p.1) o)
        (found_if pid p.0 p.1 s.last true e)
        ∙ append_assoc (late_of pid s.late) (step s.limit_times_rate (lookup (nat_eq pid) s.last) p.1)
        (after s.limit_times_rate (Some p.1) (places_of pid places))
    by false e =
        ap₂ (λ (xs : List ℕ) (l : Option ℕ). (late_of pid s.late ++ xs) ++ after s.limit_times_rate l (places_of pid places))
        (late_here s.limit_times_rate pid p.0 p.1 (lookup (nat_eq p.0) s.last) false e) (found_if pid p.0 p.1 s.last false e)
        ∙ append_assoc (late_of pid s.late) [] (after s.limit_times_rate (lookup (nat_eq pid) s.last) (places_of pid places))

-- The late places are a filter over pairs of successive places.
pub after_one : (rate limit before : ℕ) (xs : List ℕ) → after (limit * rate) (Some before) xs ≡ late rate limit (before ∷ xs)
after_one rate limit before [] = refl
after_one rate limit before (x ∷ xs) = by (is_long (limit * rate) (x - before)) (after_one rate limit x xs)
  where
    by : (u : Bool) → after (limit * rate) (Some x) xs ≡ late rate limit (x ∷ xs) →
        cond u (x ∷ []) [] ++ after (limit * rate) (Some x) xs
        ≡ map (λ (p : ℕ × ℕ). p.1)
        (cond u ((before, x) ∷ filter (λ (p : ℕ × ℕ). is_long (limit * rate) (p.1 - p.0)) (zip (x ∷ xs) xs))
        (filter (λ (p : ℕ × ℕ). is_long (limit * rate) (p.1 - p.0)) (zip (x ∷ xs) xs)))
    by true h = ap (λ (ys : List ℕ). x ∷ ys) h
    by false h = h

pub after_all : (rate limit : ℕ) (xs : List ℕ) → after (limit * rate) None xs ≡ late rate limit xs
after_all rate limit [] = refl
after_all rate limit (x ∷ xs) = after_one rate limit x xs

pub gaps_of_each_pid : GapsOfEachPid
gaps_of_each_pid rate limit pid places =
    marks_late pid (no_marks (limit * rate)) places ∙ after_all rate limit (places_of pid places)
