-- Tables, time stamps and sections: the packets at which they are reported.
use Rattle.std.proofs.Common.{◌≡◌, ◌∙◌, inl, inr, ⊎_elim, ◌↔◌, ℕ, zero, suc, ◌-◌, ◌*◌, ◌/◌, ◌<◌, ◌==◌, Bool, true, false, cond, nat_eq, List, [], ◌∷◌, ◌++◌}
use Rattle.std.proofs.Common.{length}
use Rattle.std.proofs.Common.{map, filter, Option, Some, None, refl, sym, ap, subst, arith}
use Rattle.std.specs.Prelude.{◌&&◌, nat_lt}
use Rattle.std.specs.List.{Contains}
use Rattle.std.specs.Map.{lookup}
use Rattle.std.proofs.lemmas.Bool.Decides.{nat_tests}
use Rattle.ts_packet.specs.PidList.{pid_list}
use Rattle.pid_findings.specs.Views.{PidFinding}
use Rattle.pid_findings.specs.Findings.{divider, ended, findings_after, findings_to_end, open_after, stretch}
use Rattle.monitor.specs.declared.fault.StreamFault.{StreamFault}
use Rattle.monitor.specs.declared.fault.Rule.{Rule}
use Rattle.monitor.specs.declared.fault.Rule.TheVariants as rules
use Rattle.monitor.specs.Begins.{found_on, pts_begins, table_begins}
use Rattle.monitor.specs.Gaps.{is_long, late, successive}
use Rattle.monitor.specs.InOrder.{in_order, rule_number}
use Rattle.monitor.specs.NamedPids.{named_since, namings}
use Rattle.monitor.specs.Faults.{faults_of, map_late, map_late_since, on_each, packet_pids, pat_late, pts_late, table_late}
use Rattle.monitor.specs.ReportOf.{stream_report}
use Rattle.monitor.specs.Rules.{fault}
use Rattle.monitor.proofs.GroupedFaults.{has_packets}
use Rattle.monitor.proofs.LateFaults.{within}
use Rattle.monitor.proofs.RisingLists.{contains_from_has, has_from_contains}
use Rattle.monitor.proofs.SameOrder.{has, has_in_order}
use Rattle.laws_view.specs.FaultsByRule.{is_by, is_on, is_pid}
use Rattle.laws_view.specs.Limits.{eit_limit, nit_limit, sdt_limit, tdt_limit}
use Rattle.laws_view.specs.TableFaults.{IsLateMap, IsTooLate, MapFaultLaw, PatFaultLaw, StampFaultLaw, TableFaultLaw}
use Rattle.laws_view.proofs.InsertedEntries.{same_number}
use Rattle.laws_view.proofs.FaultLists.{has_filter}
use Rattle.laws_view.proofs.References.{alone, has_place, place_of}
use Rattle.laws_view.proofs.TableGroups.{eit_group, nit_group, pat_group, pmt_group, pts_group, sdt_group, tdt_group}

no_false : true ≡ false → ⊥
no_false e = grind arith

itself : (a : ℕ) → (a == a) ≡ true
itself a = grind (arith, nat_tests)

-- 1. A fault in a report is a fault of its group

in_part : (p : StreamFault → Bool) (z : StreamFault) (xs : List StreamFault) → p z ≡ true → has z (filter p xs) ≡ has z xs
in_part p z xs h = has_filter p z xs ∙ ap (λ (b : Bool). b && has z xs) h

pub in_group : (p : StreamFault → Bool) (z : StreamFault) (xs ys : List StreamFault) → p z ≡ true → filter p xs ≡ filter p ys → has z (in_order xs) ≡ has z ys
in_group p z xs ys h e = has_in_order z xs ∙ sym (in_part p z xs h) ∙ ap (has z) e ∙ in_part p z ys h

-- 2. Gaps

abbrev ends : (ℕ × ℕ → Bool) → List (ℕ × ℕ) → List ℕ
ends test pairs = map (λ p. p.1) (filter test pairs)

gap_of : (test : ℕ × ℕ → Bool) (n : ℕ) (pairs : List (ℕ × ℕ)) → within n (ends test pairs) →
    (b : ℕ) × Contains pairs (b, n) × (test (b, n) ≡ true)
gap_of test n [] w = absurd w
gap_of test n (p ∷ pairs) w = by (λ v. gap_of test n pairs v) (test p) refl w
  where
    later : (b : ℕ) × Contains pairs (b, n) × (test (b, n) ≡ true) → (b : ℕ) × Contains (p ∷ pairs) (b, n) × (test (b, n) ≡ true)
    later r = let c = r.1 in (r.0, (suc c.0, omega (arith, c.1), c.2), r.2)

    by : (within n (ends test pairs) → (b : ℕ) × Contains pairs (b, n) × (test (b, n) ≡ true)) → (t : Bool) → test p ≡ t →
        within n (map (λ (q : ℕ × ℕ). q.1) (cond t (p ∷ filter test pairs) (filter test pairs))) →
        (b : ℕ) × Contains (p ∷ pairs) (b, n) × (test (b, n) ≡ true)
    by r true e (inl s) =
        let is : p ≡ (p.0, n) = ap (λ (k : ℕ). (p.0, k)) (sym s) in (p.0, (zero, omega arith, is), ap test (sym is) ∙ e)
    by r true e (inr v) = later (r v)
    by r false e v = later (r v)

gap_in : (test : ℕ × ℕ → Bool) (b n : ℕ) (pairs : List (ℕ × ℕ)) → Contains pairs (b, n) → test (b, n) ≡ true → within n (ends test pairs)
gap_in test b n [] c e = absurd (omega (arith, c.1))
gap_in test b n (p ∷ pairs) (zero, k, s) e = let t : test p ≡ true = ap test s ∙ e in rw t (inl (ap (λ (q : ℕ × ℕ). q.1) (sym s)))
gap_in test b n (p ∷ pairs) (suc i, k, s) e = by (test p) (gap_in test b n pairs (i, omega (arith, k), s) e)
  where
    by : (t : Bool) → within n (ends test pairs) → within n (map (λ (q : ℕ × ℕ). q.1) (cond t (p ∷ filter test pairs) (filter test pairs)))
    by true w = inr w
    by false w = w

too_late : (rate limit n : ℕ) (xs : List ℕ) → within n (late rate limit xs) → IsTooLate rate limit xs n
too_late rate limit n xs w =
    let r = gap_of (λ p. is_long (limit * rate) (p.1 - p.0)) n (successive xs) w in
    let long : nat_lt (limit * rate) ((n - r.0) * 1504000) ≡ true = r.2 in
    record { before = r.0; next = r.1; too_long = grind (arith, nat_tests) }

late_if : (rate limit n : ℕ) (xs : List ℕ) → IsTooLate rate limit xs n → within n (late rate limit xs)
late_if rate limit n xs h =
    let long : limit * rate < (n - h.before) * 1504000 = h.too_long in
    let test : nat_lt (limit * rate) ((n - h.before) * 1504000) ≡ true = grind (arith, nat_tests) in
    gap_in (λ p. is_long (limit * rate) (p.1 - p.0)) h.before n (successive xs) h.next test

-- A fault of a rule on a PID lies at a late packet of the PID.
pub place_is : (rule : Rule) (pid : Option ℕ) (n : ℕ) (xs : List ℕ) → has (fault rule pid n) (map (fault rule pid) xs) ≡ true → within n xs
place_is rule pid n xs e =
    let p = place_of rule pid (fault rule pid n) xs e in
    subst (λ (k : ℕ). within k xs) (sym (ap (λ (f : StreamFault). f.packet) p.2)) p.1

by_places : (rule : Rule) (pid rate limit n : ℕ) (xs : List ℕ) (faults : List StreamFault) →
    has (fault rule (Some pid) n) faults ≡ has (fault rule (Some pid) n) (map (fault rule (Some pid)) (late rate limit xs)) →
    Contains faults (fault rule (Some pid) n) ↔ IsTooLate rate limit xs n
by_places rule pid rate limit n xs faults e = (
  λ c. too_late rate limit n xs (place_is rule (Some pid) n (late rate limit xs) (sym e ∙ has_from_contains (fault rule (Some pid) n) faults c)),
  λ h. contains_from_has (fault rule (Some pid) n) faults (e ∙ has_place rule (Some pid) n (late rate limit xs) (late_if rate limit n xs h)),
)

-- 3. Tables

pub pat_law : PatFaultLaw
unfolding stream_report rule_number
pat_law rate given n bytes =
    by_places rules.Pat 0x00 rate 500 n (0 ∷ table_begins 0x00 (found_on 0 bytes) ++ (length bytes / 188) ∷ []) (in_order (faults_of rate given bytes))
    (in_group (is_by 7) (fault rules.Pat (Some 0x00) n) (faults_of rate given bytes) (map (fault rules.Pat (Some 0x00)) (pat_late rate bytes)) refl
    (pat_group rate given bytes))

pub nit_law : TableFaultLaw nit_limit 0x10 0x40
unfolding stream_report rule_number
nit_law rate given n bytes =
    by_places rules.Nit 0x10 rate 10000 n (table_begins 0x40 (found_on 0x10 bytes)) (in_order (faults_of rate given bytes))
    (in_group (is_by 9) (fault rules.Nit (Some 0x10) n) (faults_of rate given bytes) (map (fault rules.Nit (Some 0x10)) (table_late rate 10000 0x10 0x40 bytes))
    refl (nit_group rate given bytes))

pub sdt_law : TableFaultLaw sdt_limit 0x11 0x42
unfolding stream_report rule_number
sdt_law rate given n bytes =
    by_places rules.Sdt 0x11 rate 2000 n (table_begins 0x42 (found_on 0x11 bytes)) (in_order (faults_of rate given bytes))
    (in_group (is_by 10) (fault rules.Sdt (Some 0x11) n) (faults_of rate given bytes) (map (fault rules.Sdt (Some 0x11)) (table_late rate 2000 0x11 0x42 bytes))
    refl (sdt_group rate given bytes))

pub eit_law : TableFaultLaw eit_limit 0x12 0x4E
unfolding stream_report rule_number
eit_law rate given n bytes =
    by_places rules.Eit 0x12 rate 2000 n (table_begins 0x4E (found_on 0x12 bytes)) (in_order (faults_of rate given bytes))
    (in_group (is_by 11) (fault rules.Eit (Some 0x12) n) (faults_of rate given bytes) (map (fault rules.Eit (Some 0x12)) (table_late rate 2000 0x12 0x4E bytes))
    refl (eit_group rate given bytes))

pub tdt_law : TableFaultLaw tdt_limit 0x14 0x70
unfolding stream_report rule_number
tdt_law rate given n bytes =
    by_places rules.Tdt 0x14 rate 30000 n (table_begins 0x70 (found_on 0x14 bytes)) (in_order (faults_of rate given bytes))
    (in_group (is_by 12) (fault rules.Tdt (Some 0x14) n) (faults_of rate given bytes)
    (map (fault rules.Tdt (Some 0x14)) (table_late rate 30000 0x14 0x70 bytes))
    refl (tdt_group rate given bytes))

-- 4. Rules that apply to each PID

on_own : (rule : Rule) (lates : ℕ → List ℕ) (pids : List ℕ) → ((pid x : ℕ) → within x (lates pid) → within pid pids) → (pid n : ℕ) →
    has (fault rule (Some pid) n) (on_each rule lates pids) ≡ has (fault rule (Some pid) n) (map (fault rule (Some pid)) (lates pid))
unfolding is_pid
on_own rule lates pids covers pid n =
    sym (in_part (is_on pid) (fault rule (Some pid) n) (on_each rule lates pids) (itself pid)) ∙ alone rule lates pids covers pid (fault rule (Some pid) n)

nothing_found : (count : ℕ) → findings_to_end count [] ≡ []
unfolding findings_after ended open_after stretch divider
nothing_found count = refl

pub none_on : (pid : ℕ) (bytes : List ℕ) → pid_list pid bytes ≡ [] → found_on pid bytes ≡ []
none_on pid bytes e = by (pid == 8191)
  where
    by : (t : Bool) → cond t [] (findings_to_end (length bytes / 188) (pid_list pid bytes)) ≡ []
    by true = refl
    by false = ap (findings_to_end (length bytes / 188)) e ∙ nothing_found (length bytes / 188)

stamps_covered : (rate : ℕ) (bytes : List ℕ) (pid x : ℕ) → within x (pts_late rate bytes pid) → within pid (packet_pids bytes)
stamps_covered rate bytes pid x w = ⊎_elim
    (λ e. absurd (subst (λ (at : List PidFinding). within x (late rate 700 (pts_begins at))) (none_on pid bytes e) w)) (λ h. h) (has_packets pid bytes)

pub pts_law : StampFaultLaw
unfolding stream_report rule_number
pts_law rate given pid n bytes =
    by_places rules.Pts pid rate 700 n (pts_begins (found_on pid bytes)) (in_order (faults_of rate given bytes))
    (in_group (is_by 14) (fault rules.Pts (Some pid) n) (faults_of rate given bytes) (on_each rules.Pts (pts_late rate bytes) (packet_pids bytes)) refl
    (pts_group rate given bytes)
    ∙ on_own rules.Pts (pts_late rate bytes) (packet_pids bytes) (stamps_covered rate bytes) pid n)

-- Program maps.
is_named : (pid since : ℕ) (es : List (ℕ × ℕ)) → lookup (nat_eq pid) es ≡ Some since → within pid (map (λ naming. naming.0) es)
is_named pid since [] e = absurd cc
is_named pid since (x ∷ es) e = by (λ h. is_named pid since es h) (pid == x.0) refl e
  where
    by : (lookup (nat_eq pid) es ≡ Some since → within pid (map (λ naming. naming.0) es)) → (t : Bool) → (pid == x.0) ≡ t →
        cond t (Some x.1) (lookup (nat_eq pid) es) ≡ Some since → within pid (x.0 ∷ map (λ (naming : ℕ × ℕ). naming.0) es)
    by later true s h = inl (same_number pid x.0 s)
    by later false s h = inr (later h)

late_map : (rate pid n : ℕ) (bytes : List ℕ) (o : Option ℕ) → named_since pid bytes ≡ o →
    within n (map_late_since rate (length bytes / 188) (table_begins 0x02 (found_on pid bytes)) o) → IsLateMap rate 500 pid bytes n
unfolding map_late_since
late_map rate pid n bytes None e w = absurd w
late_map rate pid n bytes (Some since) e w = record {
  since = since;
  named = e;
  too_late = too_late rate 500 n (since ∷ filter (λ place. nat_lt since place) (table_begins 0x02 (found_on pid bytes)) ++ (length bytes / 188) ∷ []) w;
}

map_is_late : (rate pid n : ℕ) (bytes : List ℕ) → IsLateMap rate 500 pid bytes n → within n (map_late rate bytes pid)
unfolding map_late_since
map_is_late rate pid n bytes h =
    subst (λ (o : Option ℕ). within n (map_late_since rate (length bytes / 188) (table_begins 0x02 (found_on pid bytes)) o)) (sym h.named)
    (late_if rate 500 n (h.since ∷ filter (λ place. nat_lt h.since place) (table_begins 0x02 (found_on pid bytes)) ++ (length bytes / 188) ∷ []) h.too_late)

maps_covered : (rate : ℕ) (bytes : List ℕ) (pid x : ℕ) → within x (map_late rate bytes pid) → within pid (map (λ naming. naming.0) (namings (found_on 0 bytes)))
maps_covered rate bytes pid x w = let h = late_map rate pid x bytes (named_since pid bytes) refl w in is_named pid h.since (namings (found_on 0 bytes)) h.named

pub pmt_law : MapFaultLaw
unfolding stream_report rule_number
pmt_law rate given pid n bytes = (
  λ c. late_map rate pid n bytes (named_since pid bytes) refl
      (place_is rules.Pmt (Some pid) n (map_late rate bytes pid) (sym here ∙ has_from_contains z all c)),
  λ h. contains_from_has z all (here ∙ has_place rules.Pmt (Some pid) n (map_late rate bytes pid) (map_is_late rate pid n bytes h)),
)
  where
    z : StreamFault
    z = fault rules.Pmt (Some pid) n

    all : List StreamFault
    all = in_order (faults_of rate given bytes)

    named : List ℕ
    named = map (λ naming. naming.0) (namings (found_on 0 bytes))

    here : has z all ≡ has z (map (fault rules.Pmt (Some pid)) (map_late rate bytes pid))
    here = in_group (is_by 8) z (faults_of rate given bytes) (on_each rules.Pmt (map_late rate bytes) named) refl (pmt_group rate given bytes)
        ∙ on_own rules.Pmt (map_late rate bytes) named (maps_covered rate bytes) pid n
