-- Late program maps, to the end of the stream, on each named PID.
use Rattle.std.proofs.Common.{arith, inl, inr, ◌≡◌, ℕ, ◌-◌, ◌*◌, ◌==◌, Bool, true, false, cond, nat_eq, List, [], ◌∷◌, ◌++◌, map, Option, Some, None, refl, sym}
use Rattle.std.proofs.Common.{ap, ap₂, subst, ◌∙◌}
use Rattle.std.specs.List.{flat_map, filter_map, cons_option}
use Rattle.std.specs.Map.{lookup}
use Rattle.std.proofs.lemmas.List.{append-nil, map-append}
use Rattle.pid_findings.specs.Views.{PidFinding, FindingView}
use Rattle.demux.specs.Laws.{found_of, has_pid, with_pid_at}
use Rattle.monitor.specs.declared.fault.StreamFault.{StreamFault}
use Rattle.monitor.specs.declared.fault.Rule.TheVariants as rules
use Rattle.monitor.specs.declared.recurrence.LatePacket.{LatePacket}
use Rattle.monitor.specs.declared.program_maps.NamedMap.{NamedMap}
use Rattle.monitor.specs.Gaps.{is_long}
use Rattle.monitor.specs.Laws.{late_of}
use Rattle.monitor.specs.Reports.{ended_map, late_fault}
use Rattle.monitor.specs.ProgramMaps.{ProgramMapState, no_maps}
use Rattle.monitor.specs.Begins.{table_begin, table_begins}
use Rattle.monitor.specs.NamedPids.{namings, pids_named_in}
use Rattle.monitor.specs.Faults.{map_late_since, on_each}
use Rattle.monitor.proofs.LatePlaces.{late_append, same_number, step, turned_test}
use Rattle.monitor.proofs.PidEntries.{absent, lookup_absent, unique}
use Rattle.monitor.proofs.NamedPids.{at_packet}
use Rattle.monitor.proofs.FindingSteps.{maps_of_all}
use Rattle.monitor.proofs.LateFaults.{alike, late_on_each, within}
use Rattle.monitor.proofs.MapSteps.{KeptOf, all_begun_by_then, begin_on, maps_kept, pids_on}
use Rattle.monitor.proofs.MapsOfPid.{begins_all, ended_then, late_new, map_late_is, or_since, rising_from, since_of, state_new}
use Rattle.monitor.proofs.TableBegins.{begins_reported}

-- 1. The gaps before the end of the stream

abbrev ended_one : ℕ → ℕ → ℕ × NamedMap → List LatePacket
ended_one limit_times_rate count entry = map (λ x. record { pid = entry.0; packet = x }) (step limit_times_rate (Some entry.1.last) count)

abbrev pub ended_lates : ℕ → ℕ → List (ℕ × NamedMap) → List LatePacket
ended_lates limit_times_rate count named = flat_map (ended_one limit_times_rate count) named

one_is : (limit_times_rate count : ℕ) (entry : ℕ × NamedMap) →
    ended_map limit_times_rate count entry ≡ map (late_fault rules.Pmt) (ended_one limit_times_rate count entry)
unfolding ended_map
one_is limit_times_rate count entry = by (is_long limit_times_rate (count - entry.1.last))
  where
    by : (t : Bool) →
        cond t ((record { packet = count; rule = rules.Pmt; pid = Some entry.0 }) ∷ []) [] ≡ map (late_fault rules.Pmt)
        (map (λ x. record { pid = entry.0; packet = x }) (cond t (count ∷ []) []))
    by true = refl
    by false = refl

ended_is : (limit_times_rate count : ℕ) (named : List (ℕ × NamedMap)) →
    flat_map (ended_map limit_times_rate count) named ≡ map (late_fault rules.Pmt) (ended_lates limit_times_rate count named)
ended_is limit_times_rate count [] = refl
ended_is limit_times_rate count (entry ∷ named) =
    ap₂ (λ (xs ys : List StreamFault). xs ++ ys) (one_is limit_times_rate count entry) (ended_is limit_times_rate count named)
    ∙ sym (map-append (late_fault rules.Pmt) (ended_one limit_times_rate count entry) (ended_lates limit_times_rate count named))

own_lates : (pid q : ℕ) (xs : List ℕ) (t : Bool) → (q == pid) ≡ t → late_of pid (map (λ x. record { pid = q; packet = x }) xs) ≡ cond t xs []
own_lates pid q [] true e = refl
own_lates pid q [] false e = refl
own_lates pid q (x ∷ xs) true e = rw e (ap (λ (l : List ℕ). x ∷ l) (own_lates pid q xs true e))
own_lates pid q (x ∷ xs) false e = rw e (own_lates pid q xs false e)

ended_of : (pid limit_times_rate count : ℕ) (named : List (ℕ × NamedMap)) → unique named →
    late_of pid (ended_lates limit_times_rate count named) ≡ ended_then limit_times_rate count (lookup (nat_eq pid) named)
ended_of pid limit_times_rate count [] h = refl
ended_of pid limit_times_rate count (entry ∷ named) h = by (entry.0 == pid) refl (ended_of pid limit_times_rate count named h.1)
  where
    new : List ℕ
    new = step limit_times_rate (Some entry.1.last) count

    by : (t : Bool) → (entry.0 == pid) ≡ t →
        late_of pid (ended_lates limit_times_rate count named) ≡ ended_then limit_times_rate count (lookup (nat_eq pid) named) →
        late_of pid (ended_one limit_times_rate count entry ++ ended_lates limit_times_rate count named) ≡ ended_then limit_times_rate count
        (cond (nat_eq pid entry.0) (Some entry.1) (lookup (nat_eq pid) named))
    by true e k =
        let f : (pid == entry.0) ≡ true = turned_test pid entry.0 ∙ e in
        let none : lookup (nat_eq pid) named ≡ None = lookup_absent pid named (subst (λ (n : ℕ). absent n named) (same_number entry.0 pid e) h.0) in
        late_append pid (ended_one limit_times_rate count entry) (ended_lates limit_times_rate count named)
        ∙ ap₂ (λ (xs ys : List ℕ). xs ++ ys) (own_lates pid entry.0 new true e) (k ∙ ap (ended_then limit_times_rate count) none)
        ∙ append-nil new
        ∙ sym (rw f refl)
    by false e k =
        let f : (pid == entry.0) ≡ false = turned_test pid entry.0 ∙ e in
        late_append pid (ended_one limit_times_rate count entry) (ended_lates limit_times_rate count named)
        ∙ ap₂ (λ (xs ys : List ℕ). xs ++ ys) (own_lates pid entry.0 new false e) k
        ∙ sym (rw f refl)

-- 2. The names and the begins of one PID, among this PID's findings

begins_of : (pid : ℕ) (found : List FindingView) → begins_all pid found ≡ filter_map (λ f. table_begin 0x02 f.begun) (found_of pid found)
begins_of pid [] = refl
begins_of pid (f ∷ found) = by f.pid (begins_of pid found)
  where
    inner : (t : Bool) → begins_all pid found ≡ filter_map (λ f. table_begin 0x02 f.begun) (found_of pid found) →
        cons_option (cond t (table_begin 0x02 f.begun) None) (begins_all pid found) ≡ filter_map (λ f. table_begin 0x02 f.begun)
        (cond t (f ∷ found_of pid found) (found_of pid found))
    inner true h = ap (cons_option (table_begin 0x02 f.begun)) h
    inner false h = h

    by : (q : Option ℕ) → begins_all pid found ≡ filter_map (λ f. table_begin 0x02 f.begun) (found_of pid found) →
        cons_option (begin_on pid q f.begun) (begins_all pid found) ≡ filter_map (λ f. table_begin 0x02 f.begun)
        (cond (has_pid pid q) (f ∷ found_of pid found) (found_of pid found))
    by None h = h
    by (Some q) h = inner (q == pid) h

lookup_append : (pid : ℕ) (xs ys : List (ℕ × ℕ)) → lookup (nat_eq pid) (xs ++ ys) ≡ or_since (lookup (nat_eq pid) xs) (lookup (nat_eq pid) ys)
lookup_append pid [] ys = refl
lookup_append pid (x ∷ xs) ys = by (nat_eq pid x.0) (lookup_append pid xs ys)
  where
    by : (t : Bool) → lookup (nat_eq pid) (xs ++ ys) ≡ or_since (lookup (nat_eq pid) xs) (lookup (nat_eq pid) ys) →
        cond t (Some x.1) (lookup (nat_eq pid) (xs ++ ys)) ≡ or_since (cond t (Some x.1) (lookup (nat_eq pid) xs)) (lookup (nat_eq pid) ys)
    by true h = refl
    by false h = h

abbrev namings_reported : List FindingView → List (ℕ × ℕ)
namings_reported found = flat_map (λ f. at_packet f.packet (pids_named_in f.what)) found

since_is : (pid : ℕ) (found : List FindingView) → since_of pid found ≡ lookup (nat_eq pid) (namings_reported (found_of 0 found))
unfolding since_of
since_is pid [] = refl
since_is pid (f ∷ found) = by f.pid (since_is pid found)
  where
    inner : (t : Bool) → since_of pid found ≡ lookup (nat_eq pid) (namings_reported (found_of 0 found)) →
        or_since (lookup (nat_eq pid) (at_packet f.packet (cond t (pids_named_in f.what) []))) (since_of pid found)
        ≡ lookup (nat_eq pid) (namings_reported (cond t (f ∷ found_of 0 found) (found_of 0 found)))
    inner true h = ap (or_since (lookup (nat_eq pid) (at_packet f.packet (pids_named_in f.what)))) h
        ∙ sym (lookup_append pid (at_packet f.packet (pids_named_in f.what)) (namings_reported (found_of 0 found)))
    inner false h = h

    by : (q : Option ℕ) → since_of pid found ≡ lookup (nat_eq pid) (namings_reported (found_of 0 found)) →
        or_since (lookup (nat_eq pid) (at_packet f.packet (pids_on q f.what))) (since_of pid found)
        ≡ lookup (nat_eq pid) (namings_reported (cond (has_pid 0 q) (f ∷ found_of 0 found) (found_of 0 found)))
    by None h = h
    by (Some q) h = inner (q == 0) h

reported_namings : (pid : ℕ) (found : List PidFinding) → namings_reported (map (with_pid_at pid) found) ≡ namings found
reported_namings pid [] = refl
reported_namings pid (x ∷ found) = ap (λ (xs : List (ℕ × ℕ)). at_packet x.packet (pids_named_in x.found.what) ++ xs) (reported_namings pid found)

-- 3. All late program maps

looked_within : (pid z : ℕ) (xs : List (ℕ × ℕ)) → lookup (nat_eq pid) xs ≡ Some z → within pid (map (λ x. x.0) xs)
looked_within pid z [] e = absurd (none_some z e)
  where
    none_some : (x : ℕ) → None ≡ Some x → ⊥
    none_some x k = grind arith
looked_within pid z (x ∷ xs) e = by (nat_eq pid x.0) refl (looked_within pid z xs) e
  where
    by : (t : Bool) → nat_eq pid x.0 ≡ t → (lookup (nat_eq pid) xs ≡ Some z → within pid (map (λ y. y.0) xs)) →
        cond t (Some x.1) (lookup (nat_eq pid) xs) ≡ Some z → within pid (map (λ y. y.0) (x ∷ xs))
    by true f h k = inl (same_number pid x.0 f)
    by false f h k = inr (h k)

named_within : (rate count pid x : ℕ) (begins : List ℕ) (xs : List (ℕ × ℕ)) (o : Option ℕ) → lookup (nat_eq pid) xs ≡ o →
    within x (map_late_since rate count begins o) → within pid (map (λ y. y.0) xs)
unfolding map_late_since
named_within rate count pid x begins xs None e h = absurd h
named_within rate count pid x begins xs (Some since) e h = looked_within pid since xs e

pub maps_alike : (rate count : ℕ) (found : List FindingView) (on : ℕ → List PidFinding) → ((pid : ℕ) → found_of pid found ≡ map (with_pid_at pid) (on pid)) →
    rising_from 0 found → all_begun_by_then found →
    alike (map (late_fault rules.Pmt) (maps_of_all (no_maps (500 * rate)) found).late
    ++ flat_map (ended_map (maps_of_all (no_maps (500 * rate)) found).limit_times_rate count) (maps_of_all (no_maps (500 * rate)) found).named)
    (on_each rules.Pmt (λ pid. map_late_since rate count (table_begins 0x02 (on pid)) (lookup (nat_eq pid) (namings (on 0))))
    (map (λ naming. naming.0) (namings (on 0))))
maps_alike rate count found on same_found rises begun =
    subst (λ (xs : List StreamFault). alike xs (on_each rules.Pmt places pids)) (sym all)
    (late_on_each rules.Pmt (s.late ++ ended_lates s.limit_times_rate count s.named) places pids lates
    (λ pid x h. named_within rate count pid x (table_begins 0x02 (on pid)) (namings (on 0)) (lookup (nat_eq pid) (namings (on 0))) refl h))
  where
    s : ProgramMapState
    s = maps_of_all (no_maps (500 * rate)) found

    pids : List ℕ
    pids = map (λ naming. naming.0) (namings (on 0))

    places : ℕ → List ℕ
    places pid = map_late_since rate count (table_begins 0x02 (on pid)) (lookup (nat_eq pid) (namings (on 0)))

    kept : (pid : ℕ) → KeptOf pid (no_maps (500 * rate)) s found
    kept pid = maps_kept pid (no_maps (500 * rate)) found begun

    all : map (late_fault rules.Pmt) s.late ++ flat_map (ended_map s.limit_times_rate count) s.named ≡ map (late_fault rules.Pmt)
        (s.late ++ ended_lates s.limit_times_rate count s.named)
    all = ap (λ (xs : List StreamFault). map (late_fault rules.Pmt) s.late ++ xs) (ended_is s.limit_times_rate count s.named)
        ∙ sym (map-append (late_fault rules.Pmt) s.late (ended_lates s.limit_times_rate count s.named))

    since : (pid : ℕ) → since_of pid found ≡ lookup (nat_eq pid) (namings (on 0))
    since pid = since_is pid found ∙ ap (λ (xs : List FindingView). lookup (nat_eq pid) (namings_reported xs)) (same_found 0)
        ∙ ap (lookup (nat_eq pid)) (reported_namings 0 (on 0))

    begins : (pid : ℕ) → begins_all pid found ≡ table_begins 0x02 (on pid)
    begins pid = begins_of pid found ∙ ap (filter_map (λ f. table_begin 0x02 f.begun)) (same_found pid) ∙ begins_reported 0x02 pid (on pid)

    lates : (pid : ℕ) → late_of pid (s.late ++ ended_lates s.limit_times_rate count s.named) ≡ places pid
    lates pid =
        let k = kept pid in
        late_append pid s.late (ended_lates s.limit_times_rate count s.named)
        ∙ ap₂ (λ (xs ys : List ℕ). xs ++ ys)
        (k.late ∙ late_new pid (500 * rate) 0 found rises begun)
        (ended_of pid s.limit_times_rate count s.named (k.own tt) ∙ ap₂ (λ (m : ℕ) (o : Option NamedMap). ended_then m count o) k.limit_times_rate
        (k.state ∙ state_new pid 0 found rises begun))
        ∙ sym (map_late_is rate count (begins_all pid found) (since_of pid found))
        ∙ ap₂ (map_late_since rate count) (begins pid) (since pid)
