-- The program map of one PID, from the packet that first names the PID.
use Rattle.std.proofs.Common.{◌≡◌, ℕ, ◌*◌, ◌≤◌, ◌==◌, Bool, true, false, cond, nat_eq, List, [], ◌∷◌, ◌++◌, filter, Option, Some, None, refl, sym, ap, subst}
use Rattle.std.proofs.Common.{◌∙◌, arith, append_assoc}
use Rattle.std.specs.Prelude.{nat_lt}
use Rattle.std.specs.List.{filter_map, cons_option}
use Rattle.std.specs.Map.{lookup}
use Rattle.std.proofs.lemmas.List.{append-nil}
use Rattle.std.proofs.lemmas.Bool.Decides.{nat_tests}
use Rattle.pid_findings.specs.declared.finding.Kind.{Kind}
use Rattle.pid_findings.specs.declared.finding.Kind.TheVariants.{Table, Pes}
use Rattle.pid_findings.specs.Views.{FindingView}
use Rattle.monitor.specs.declared.program_maps.NamedMap.{NamedMap}
use Rattle.monitor.specs.Begins.{table_begin}
use Rattle.monitor.specs.Faults.{map_late_since}
use Rattle.monitor.proofs.LatePlaces.{after, after_one, step}
use Rattle.monitor.proofs.NamedPids.{at_packet}
use Rattle.monitor.proofs.MapSteps.{all_begun_by_then, begin_in, begin_on, begun_by_then, late_after, lates_after, naming_in, next_named, state_after}

abbrev pub later : ℕ → List ℕ → List ℕ
later since xs = filter (λ x. nat_lt since x) xs

abbrev pub last_of : ℕ → List ℕ → ℕ
last_of b [] = b
last_of b (x ∷ xs) = last_of x xs

abbrev pub begins_all : ℕ → List FindingView → List ℕ
begins_all pid found = filter_map (λ f. begin_in pid f) found

-- 1. The state after the PID is named

state_known : (pid since last : ℕ) (found : List FindingView) →
    state_after pid (Some (record { since = since; last = last })) found ≡ Some
    (record { since = since; last = last_of last (later since (begins_all pid found)) })
unfolding state_after
state_known pid since last [] = refl
state_known pid since last (f ∷ found) = by (begin_in pid f) (λ l. state_known pid since l found)
  where
    inner : (x : ℕ) →
        ((l : ℕ) → state_after pid (Some (record { since = since; last = l })) found ≡ Some
        (record { since = since; last = last_of l (later since (begins_all pid found)) })) →
        (u : Bool) → state_after pid
        (next_named (cond u (Some (record { since = since; last = x })) (Some (record { since = since; last = last }))) None (naming_in pid f)) found
        ≡ Some (record { since = since; last = last_of last (cond u (x ∷ later since (begins_all pid found)) (later since (begins_all pid found))) })
    inner x h true = h x
    inner x h false = h last

    turn : (u : Bool) (x : ℕ) →
        next_named (cond u (Some (record { since = since; last = x })) (Some (record { since = since; last = last }))) None (naming_in pid f)
        ≡ cond u (Some (record { since = since; last = x })) (Some (record { since = since; last = last }))
    turn true x = refl
    turn false x = refl

    named_out : (u : Bool) (x : ℕ) (z : Option ℕ) → (nat_lt since x) ≡ u → next_named (Some (record { since = since; last = last })) (Some x) z
        ≡ cond u (Some (record { since = since; last = x })) (Some (record { since = since; last = last }))
    named_out true x z e = rw e refl
    named_out false x z e = rw e refl

    by : (b : Option ℕ) →
        ((l : ℕ) → state_after pid (Some (record { since = since; last = l })) found ≡ Some
        (record { since = since; last = last_of l (later since (begins_all pid found)) })) →
        state_after pid (next_named (Some (record { since = since; last = last })) b (naming_in pid f)) found
        ≡ Some (record { since = since; last = last_of last (later since (cons_option b (begins_all pid found))) })
    by None h = h last
    by (Some x) h =
        ap (λ (o : Option NamedMap). state_after pid o found) (named_out (nat_lt since x) x (naming_in pid f) refl ∙ sym (turn (nat_lt since x) x))
        ∙ inner x h (nat_lt since x)

late_known : (pid limit_times_rate since last : ℕ) (found : List FindingView) →
    lates_after pid limit_times_rate (Some (record { since = since; last = last })) found ≡ after limit_times_rate (Some last)
    (later since (begins_all pid found))
unfolding lates_after
late_known pid limit_times_rate since last [] = refl
late_known pid limit_times_rate since last (f ∷ found) = by (begin_in pid f) (λ l. late_known pid limit_times_rate since l found)
  where
    inner : (x : ℕ) →
        ((l : ℕ) → lates_after pid limit_times_rate (Some (record { since = since; last = l })) found ≡ after limit_times_rate (Some l)
        (later since (begins_all pid found))) →
        (u : Bool) → nat_lt since x ≡ u → late_after limit_times_rate (Some (record { since = since; last = last })) (Some x)
        ++ lates_after pid limit_times_rate (next_named (Some (record { since = since; last = last })) (Some x) (naming_in pid f)) found
        ≡ after limit_times_rate (Some last) (cond (nat_lt since x) (x ∷ later since (begins_all pid found)) (later since (begins_all pid found)))
    inner x h true e = rw e (ap (λ (xs : List ℕ). step limit_times_rate (Some last) x ++ xs) (h x))
    inner x h false e = rw e (h last)

    by : (b : Option ℕ) →
        ((l : ℕ) → lates_after pid limit_times_rate (Some (record { since = since; last = l })) found ≡ after limit_times_rate (Some l)
        (later since (begins_all pid found))) →
        late_after limit_times_rate (Some (record { since = since; last = last })) b
        ++ lates_after pid limit_times_rate (next_named (Some (record { since = since; last = last })) b (naming_in pid f)) found
        ≡ after limit_times_rate (Some last) (later since (cons_option b (begins_all pid found)))
    by None h = h last
    by (Some x) h = inner x h (nat_lt since x) refl

-- 2. The state before the PID is named

abbrev pub or_since : Option ℕ → Option ℕ → Option ℕ
or_since (Some z) o = Some z
or_since None o = o

unfoldable pub since_of : ℕ → List FindingView → Option ℕ
since_of pid [] = None
since_of pid (f ∷ found) = or_since (naming_in pid f) (since_of pid found)

-- The packet numbers of findings do not decrease.
abbrev pub rising_from : ℕ → List FindingView → Type 0
rising_from low [] = Unit {0}
rising_from low (f ∷ found) = (low ≤ f.packet) × rising_from f.packet found

none_some : (x : ℕ) → None ≡ Some x → ⊥
none_some x e = grind arith

some_some : (x y : ℕ) → Some x ≡ Some y → x ≡ y
some_some x y e = grind arith

naming_is : (pid packet z : ℕ) (pids : List ℕ) → lookup (nat_eq pid) (at_packet packet pids) ≡ Some z → packet ≡ z
naming_is pid packet z [] e = absurd (none_some z e)
naming_is pid packet z (q ∷ pids) e = by (nat_eq pid q) (naming_is pid packet z pids) e
  where
    by : (t : Bool) → (lookup (nat_eq pid) (at_packet packet pids) ≡ Some z → packet ≡ z) →
        cond t (Some packet) (lookup (nat_eq pid) (at_packet packet pids)) ≡ Some z → packet ≡ z
    by true h k = some_some packet z k
    by false h k = h k

since_from : (pid low z : ℕ) (found : List FindingView) → rising_from low found → since_of pid found ≡ Some z → low ≤ z
unfolding since_of
since_from pid low z [] h e = absurd (none_some z e)
since_from pid low z (f ∷ found) h e = by (naming_in pid f) refl (since_from pid f.packet z found h.1) e
  where
    by : (o : Option ℕ) → naming_in pid f ≡ o → (since_of pid found ≡ Some z → f.packet ≤ z) → or_since o (since_of pid found) ≡ Some z → low ≤ z
    by None n k g = let m : f.packet ≤ z = k g in let l : low ≤ f.packet = h.0 in omega arith
    by (Some w) n k g = let a : f.packet ≡ w = naming_is pid f.packet w _ n in let b : w ≡ z = some_some w z g in let l : low ≤ f.packet = h.0 in omega arith

begin_le : (pid packet x : ℕ) (q : Option ℕ) (begun : Option (ℕ × Kind)) → begun_by_then packet begun → begin_on pid q begun ≡ Some x → x ≤ packet
unfolding table_begin
begin_le pid packet x None begun h e = absurd (none_some x e)
begin_le pid packet x (Some q) None h e = by (q == pid) e
  where
    by : (t : Bool) → cond t None None ≡ Some x → x ≤ packet
    by true k = absurd (none_some x k)
    by false k = absurd (none_some x k)
begin_le pid packet x (Some q) (Some (y, Pes stamped access)) h e = by (q == pid) e
  where
    by : (t : Bool) → cond t None None ≡ Some x → x ≤ packet
    by true k = absurd (none_some x k)
    by false k = absurd (none_some x k)
begin_le pid packet x (Some q) (Some (y, Table table_id)) h e = by (q == pid) (table_id == 0x02) e
  where
    by : (t u : Bool) → cond t (cond u (Some y) None) None ≡ Some x → x ≤ packet
    by true true k = subst (λ (n : ℕ). n ≤ packet) (some_some y x k) h
    by true false k = absurd (none_some x k)
    by false u k = absurd (none_some x k)

dropped : (since : ℕ) (o : Option ℕ) (rest : List ℕ) → ((x : ℕ) → o ≡ Some x → x ≤ since) → later since (cons_option o rest) ≡ later since rest
dropped since None rest h = refl
dropped since (Some x) rest h = let k : x ≤ since = h x refl in let e : nat_lt since x ≡ false = grind (arith, nat_tests) in rw e refl

abbrev pub named_then : Option ℕ → List ℕ → Option NamedMap
named_then None begins = None
named_then (Some since) begins = Some (record { since = since; last = last_of since (later since begins) })

abbrev pub late_then : ℕ → Option ℕ → List ℕ → List ℕ
late_then limit_times_rate None begins = []
late_then limit_times_rate (Some since) begins = after limit_times_rate (Some since) (later since begins)

pub state_new : (pid low : ℕ) (found : List FindingView) → rising_from low found → all_begun_by_then found →
    state_after pid None found ≡ named_then (since_of pid found) (begins_all pid found)
unfolding state_after since_of
state_new pid low [] h b = refl
state_new pid low (f ∷ found) h b = by (naming_in pid f) refl (state_new pid f.packet found h.1 b.1)
  where
    same : (o : Option ℕ) → since_of pid found ≡ o → named_then o (begins_all pid found) ≡ named_then o (cons_option (begin_in pid f) (begins_all pid found))
    same None e = refl
    same (Some since) e =
        let n : f.packet ≤ since = since_from pid f.packet since found h.1 e in
        ap (λ (xs : List ℕ). Some (record { since = since; last = last_of since xs }))
        (sym (dropped since (begin_in pid f) (begins_all pid found) (λ x k. let m : x ≤ f.packet = begin_le pid f.packet x f.pid f.begun b.0 k in omega arith)))

    by : (z : Option ℕ) → naming_in pid f ≡ z → state_after pid None found ≡ named_then (since_of pid found) (begins_all pid found) →
        state_after pid (next_named None (begin_in pid f) z) found ≡ named_then (or_since z (since_of pid found))
        (cons_option (begin_in pid f) (begins_all pid found))
    by None e k = k ∙ same (since_of pid found) refl
    by (Some w) e k =
        let n : f.packet ≡ w = naming_is pid f.packet w _ e in
        state_known pid w w found
        ∙ ap (λ (xs : List ℕ). Some (record { since = w; last = last_of w xs }))
        (sym (dropped w (begin_in pid f) (begins_all pid found) (λ x k. let m : x ≤ f.packet = begin_le pid f.packet x f.pid f.begun b.0 k in omega arith)))

pub late_new : (pid limit_times_rate low : ℕ) (found : List FindingView) → rising_from low found → all_begun_by_then found →
    lates_after pid limit_times_rate None found ≡ late_then limit_times_rate (since_of pid found) (begins_all pid found)
unfolding lates_after since_of
late_new pid limit_times_rate low [] h b = refl
late_new pid limit_times_rate low (f ∷ found) h b = by (naming_in pid f) refl (late_new pid limit_times_rate f.packet found h.1 b.1)
  where
    same : (o : Option ℕ) → since_of pid found ≡ o →
        late_then limit_times_rate o (begins_all pid found) ≡ late_then limit_times_rate o (cons_option (begin_in pid f) (begins_all pid found))
    same None e = refl
    same (Some since) e =
        let n : f.packet ≤ since = since_from pid f.packet since found h.1 e in
        ap (λ (xs : List ℕ). after limit_times_rate (Some since) xs)
        (sym (dropped since (begin_in pid f) (begins_all pid found) (λ x k. let m : x ≤ f.packet = begin_le pid f.packet x f.pid f.begun b.0 k in omega arith)))

    by : (z : Option ℕ) → naming_in pid f ≡ z →
        lates_after pid limit_times_rate None found ≡ late_then limit_times_rate (since_of pid found) (begins_all pid found) →
        lates_after pid limit_times_rate (next_named None (begin_in pid f) z) found ≡ late_then limit_times_rate (or_since z (since_of pid found))
        (cons_option (begin_in pid f) (begins_all pid found))
    by None e k = k ∙ same (since_of pid found) refl
    by (Some w) e k =
        let n : f.packet ≡ w = naming_is pid f.packet w _ e in
        late_known pid limit_times_rate w w found
        ∙ ap (λ (xs : List ℕ). after limit_times_rate (Some w) xs)
        (sym (dropped w (begin_in pid f) (begins_all pid found) (λ x k. let m : x ≤ f.packet = begin_le pid f.packet x f.pid f.begun b.0 k in omega arith)))

-- 3. The state at the end of the stream

abbrev pub ended_then : ℕ → ℕ → Option NamedMap → List ℕ
ended_then limit_times_rate count None = []
ended_then limit_times_rate count (Some n) = step limit_times_rate (Some n.last) count

after_last : (limit_times_rate b y : ℕ) (xs : List ℕ) → after limit_times_rate (Some b) (xs ++ y ∷ []) ≡ after limit_times_rate (Some b) xs
    ++ step limit_times_rate (Some (last_of b xs)) y
after_last limit_times_rate b y [] = append-nil (step limit_times_rate (Some b) y)
after_last limit_times_rate b y (x ∷ xs) = ap (λ (l : List ℕ). step limit_times_rate (Some b) x ++ l) (after_last limit_times_rate x y xs)
    ∙ sym (append_assoc (step limit_times_rate (Some b) x) (after limit_times_rate (Some x) xs) (step limit_times_rate (Some (last_of x xs)) y))

pub map_late_is : (rate count : ℕ) (begins : List ℕ) (o : Option ℕ) →
    map_late_since rate count begins o ≡ late_then (500 * rate) o begins ++ ended_then (500 * rate) count (named_then o begins)
unfolding map_late_since
map_late_is rate count begins None = refl
map_late_is rate count begins (Some since) =
    sym (after_one rate 500 since (later since begins ++ count ∷ [])) ∙ after_last (500 * rate) since count (later since begins)
