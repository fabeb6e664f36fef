-- Packets with late clock references, PID by PID.
use Rattle.std.proofs.Common.{◌≡◌, ◌∙◌, inl, inr, ⊎_elim, ℕ, ◌==◌, Bool, true, false, List, [], ◌∷◌, ◌++◌, map, filter, Option, Some, refl}
use Rattle.std.proofs.Common.{sym, ap, ap₂, subst, arith}
use Rattle.std.specs.Prelude.{◌&&◌, ◌||◌}
use Rattle.std.specs.List.{Contains}
use Rattle.std.proofs.lemmas.Bool.Decides.{nat_tests}
use Rattle.std.proofs.lemmas.List.Elements.{filter-append}
use Rattle.ts_packet.specs.PcrBytes.{has_pcr}
use Rattle.ts_packet.specs.PidList.{Entry, pid_list}
use Rattle.monitor.specs.declared.fault.StreamFault.{StreamFault}
use Rattle.monitor.specs.declared.fault.Rule.{Rule}
use Rattle.monitor.specs.declared.fault.Rule.TheVariants as rules
use Rattle.monitor.specs.Begins.{pcr_places}
use Rattle.monitor.specs.Gaps.{late}
use Rattle.monitor.specs.InOrder.{in_order, rule_number}
use Rattle.monitor.specs.Faults.{faults_of, on_each, packet_pids, pcr_late}
use Rattle.monitor.specs.ReportOf.{stream_report}
use Rattle.monitor.specs.Rules.{fault}
use Rattle.monitor.proofs.GroupedFaults.{has_packets}
use Rattle.monitor.proofs.LateFaults.{alike, alike_from, each_in, each_out, within}
use Rattle.monitor.proofs.RisingLists.{contains_from_has, has_from_contains}
use Rattle.monitor.proofs.SameOrder.{has, in_order_same, same, same_is, same_itself}
use Rattle.laws_view.specs.FaultsByRule.{is_by, is_on, is_pid}
use Rattle.laws_view.specs.References.{ComesLate, ReferenceLaw, ReferencesInOrder, references}
use Rattle.laws_view.proofs.InsertedEntries.{same_number}
use Rattle.laws_view.proofs.EachPid.{increasing_filter, increasing_pid}
use Rattle.laws_view.proofs.FaultGroups.{pcr_group}
use Rattle.laws_view.proofs.FaultLists.{filter_in_order, has_filter}
use Rattle.laws_view.proofs.LatePackets.{comes_late, late_comes}
use Rattle.laws_view.proofs.PlaceOrder.{Increasing, increasing_late, order_stays, rising_places}

no_false : true ≡ false → ⊥
no_false e = grind arith

-- 1. Faults of one rule on each PID

both : (a b : Bool) → a ≡ true → b ≡ true → (a && b) ≡ true
both true true e f = refl
both true false e f = absurd (no_false (sym f))
both false b e f = absurd (no_false (sym e))

left_of : (a b : Bool) → (a && b) ≡ true → a ≡ true
left_of true b e = refl
left_of false b e = absurd (no_false (sym e))

right_of : (a b : Bool) → (a && b) ≡ true → b ≡ true
right_of true b e = e
right_of false b e = absurd (no_false (sym e))

-- A fault in the list of one rule and one PID has a packet of that list.
pub place_of : (rule : Rule) (pid : Option ℕ) (z : StreamFault) (xs : List ℕ) → has z (map (fault rule pid) xs) ≡ true →
    (x : ℕ) × within x xs × (z ≡ fault rule pid x)
unfolding has
place_of rule pid z [] e = absurd (no_false (sym e))
place_of rule pid z (x ∷ xs) e = by (λ h. place_of rule pid z xs h) (same z (fault rule pid x)) refl e
  where
    by : (has z (map (fault rule pid) xs) ≡ true → (y : ℕ) × within y xs × (z ≡ fault rule pid y)) → (t : Bool) → same z (fault rule pid x) ≡ t →
        (t || has z (map (fault rule pid) xs)) ≡ true → (y : ℕ) × within y (x ∷ xs) × (z ≡ fault rule pid y)
    by later true s h = (x, inl refl, same_is z (fault rule pid x) s)
    by later false s h = let r = later h in (r.0, inr r.1, r.2)

pub has_place : (rule : Rule) (pid : Option ℕ) (x : ℕ) (xs : List ℕ) → within x xs → has (fault rule pid x) (map (fault rule pid) xs) ≡ true
unfolding has
has_place rule pid x [] w = absurd w
has_place rule pid x (y ∷ ys) (inl e) =
    ap (λ (t : Bool). t || has (fault rule pid x) (map (fault rule pid) ys))
    (ap (λ (k : ℕ). same (fault rule pid x) (fault rule pid k)) (sym e) ∙ same_itself (fault rule pid x))
has_place rule pid x (y ∷ ys) (inr w) = by (same (fault rule pid x) (fault rule pid y)) (has_place rule pid x ys w)
  where
    by : (t : Bool) → has (fault rule pid x) (map (fault rule pid) ys) ≡ true → (t || has (fault rule pid x) (map (fault rule pid) ys)) ≡ true
    by true h = refl
    by false h = h

-- The faults of one PID.
module _ (rule : Rule) (lates : ℕ → List ℕ) (pids : List ℕ) (covers : (pid x : ℕ) → within x (lates pid) → within pid pids) (pid : ℕ) where
  one : (z : StreamFault) → is_on pid z ≡ true → (q : ℕ) → has z (map (fault rule (Some q)) (lates q)) ≡ true →
      has z (map (fault rule (Some pid)) (lates pid)) ≡ true
  unfolding is_pid
  one z o q e =
      let p = place_of rule (Some q) z (lates q) e in
      let here : (q == pid) ≡ true = sym (ap (is_on pid) p.2) ∙ o in
      subst (λ (k : ℕ). has z (map (fault rule (Some k)) (lates k)) ≡ true) (same_number q pid here) e

  on_pid : (z : StreamFault) → has z (map (fault rule (Some pid)) (lates pid)) ≡ true → is_on pid z ≡ true
  unfolding is_pid
  on_pid z e = let p = place_of rule (Some pid) z (lates pid) e in ap (is_on pid) p.2 ∙ itself
    where
      itself : (pid == pid) ≡ true
      itself = grind (arith, nat_tests)

  pub alone : alike (filter (is_on pid) (on_each rule lates pids)) (map (fault rule (Some pid)) (lates pid))
  alone = alike_from _ _
      (λ z e. let f = sym (has_filter (is_on pid) z (on_each rule lates pids)) ∙ e in
      each_out z (λ q. map (fault rule (Some q)) (lates q)) (map (fault rule (Some pid)) (lates pid)) pids
      (one z (left_of (is_on pid z) (has z (on_each rule lates pids)) f)) (right_of (is_on pid z) (has z (on_each rule lates pids)) f))
      (λ z e. let p = place_of rule (Some pid) z (lates pid) e in
      has_filter (is_on pid) z (on_each rule lates pids)
      ∙ both (is_on pid z) (has z (on_each rule lates pids)) (on_pid z e)
      (each_in z (λ q. map (fault rule (Some q)) (lates q)) pids pid (covers pid p.0 p.1) e))

-- 2. Clock references

increasing_references : (pid : ℕ) (bytes : List ℕ) → Increasing (references pid bytes)
increasing_references pid bytes = increasing_filter (λ entry. has_pcr entry.packet.adaptation) (pid_list pid bytes) (increasing_pid pid bytes)

covered : (rate limit : ℕ) (bytes : List ℕ) (pid x : ℕ) → within x (pcr_late rate limit bytes pid) → within pid (packet_pids bytes)
covered rate limit bytes pid x w = ⊎_elim
    (λ e. absurd (subst (λ (l : List Entry). within x (late rate limit (pcr_places l))) e w)) (λ h. h) (has_packets pid bytes)

by_references : (rate limit : ℕ) (bytes : List ℕ) →
    filter (is_by 13) (faults_of rate limit bytes) ≡ filter (is_by 13) (on_each rules.Pcr (pcr_late rate limit bytes) (packet_pids bytes))
unfolding rule_number
by_references rate limit bytes =
    pcr_group (is_by 13) rate limit bytes (record {
      counter = λ o k. refl;
      crc = λ o k. refl;
      section = λ o k. refl;
      pat = λ o k. refl;
      pmt = λ o k. refl;
      nit = λ o k. refl;
      sdt = λ o k. refl;
      eit = λ o k. refl;
      tdt = λ o k. refl;
      pts = λ o k. refl;
      cut = λ o k. refl;
    }) (λ o k. refl) (λ o k. refl)
    (λ o k. refl)

all_of_rule : (pid : Option ℕ) (xs : List ℕ) → filter (is_by 13) (map (fault rules.Pcr pid) xs) ≡ map (fault rules.Pcr pid) xs
unfolding rule_number
all_of_rule pid [] = refl
all_of_rule pid (x ∷ xs) = ap (λ (l : List StreamFault). fault rules.Pcr pid x ∷ l) (all_of_rule pid xs)

all_by : (pids : List ℕ) (lates : ℕ → List ℕ) → filter (is_by 13) (on_each rules.Pcr lates pids) ≡ on_each rules.Pcr lates pids
all_by [] lates = refl
all_by (pid ∷ pids) lates =
    filter-append (is_by 13) (map (fault rules.Pcr (Some pid)) (lates pid)) (on_each rules.Pcr lates pids)
    ∙ ap₂ (λ (a b : List StreamFault). a ++ b) (all_of_rule (Some pid) (lates pid)) (all_by pids lates)

pub references_in_order : ReferencesInOrder
unfolding stream_report rule_number
references_in_order rate limit pid bytes =
    ap (filter (is_on pid)) (filter_in_order (is_by 13) (faults_of rate limit bytes) ∙ ap in_order (by_references rate limit bytes)
    ∙ ap in_order (all_by (packet_pids bytes) (pcr_late rate limit bytes)))
    ∙ filter_in_order (is_on pid) each
    ∙ in_order_same (filter (is_on pid) each) own (alone rules.Pcr (pcr_late rate limit bytes) (packet_pids bytes) (covered rate limit bytes) pid)
    ∙ order_stays own (rising_places rules.Pcr (Some pid) (pcr_late rate limit bytes pid)
    (increasing_late rate limit (references pid bytes) (increasing_references pid bytes)))
  where
    each : List StreamFault
    each = on_each rules.Pcr (pcr_late rate limit bytes) (packet_pids bytes)

    own : List StreamFault
    own = map (fault rules.Pcr (Some pid)) (pcr_late rate limit bytes pid)

pub reference_law : ReferenceLaw
unfolding stream_report rule_number is_pid
reference_law rate limit pid packet bytes = (there, back)
  where
    z : StreamFault
    z = fault rules.Pcr (Some pid) packet

    all : List StreamFault
    all = (stream_report rate limit bytes).faults

    lates : List ℕ
    lates = pcr_late rate limit bytes pid

    itself : (pid == pid) ≡ true
    itself = grind (arith, nat_tests)

    in_part : has z (filter (is_on pid) (filter (is_by 13) all)) ≡ has z all
    in_part = has_filter (is_on pid) z (filter (is_by 13) all) ∙ rw itself (has_filter (is_by 13) z all)

    as_own : has z (filter (is_on pid) (filter (is_by 13) all)) ≡ has z (map (fault rules.Pcr (Some pid)) lates)
    as_own = ap (has z) (references_in_order rate limit pid bytes)

    there : Contains all z → ComesLate rate limit (references pid bytes) packet
    there c =
        let p = place_of rules.Pcr (Some pid) z lates (sym as_own ∙ in_part ∙ has_from_contains z all c) in
        let same_place : p.0 ≡ packet = sym (ap (λ (f : StreamFault). f.packet) p.2) in
        late_comes rate limit packet (references pid bytes) (increasing_references pid bytes) (subst (λ (k : ℕ). within k lates) same_place p.1)

    back : ComesLate rate limit (references pid bytes) packet → Contains all z
    back h =
        contains_from_has z all (sym in_part ∙ as_own
        ∙ has_place rules.Pcr (Some pid) packet lates (comes_late rate limit packet (references pid bytes) (increasing_references pid bytes) h))
