-- The counter breaks at a packet, judged by the packets before it.
use Rattle.std.proofs.Common.{◌≡◌, ◌∙◌, inl, inr, ℕ, ◌==◌, Bool, true, false, cond, List, [], ◌∷◌, map, filter, Option}
use Rattle.std.proofs.Common.{Some, None, refl, sym, ap, subst, arith}
use Rattle.std.specs.Prelude.{◌&&◌, ◌||◌, is_some, not}
use Rattle.std.specs.Str.{bytes_eq}
use Rattle.std.specs.List.{Contains}
use Rattle.std.proofs.lemmas.Bool.Decides.{nat_tests}
use Rattle.ts_packet.specs.PidList.{Entry, pid_list}
use Rattle.pid_findings.specs.Marks.{LastView, Marked, break_after, break_at, content, following, is_discontinuity, is_repeat, mark, marked, repeats, seen}
use Rattle.monitor.specs.declared.fault.StreamFault.{StreamFault}
use Rattle.monitor.specs.declared.fault.Rule.TheVariants as rules
use Rattle.monitor.specs.InOrder.{rule_number}
use Rattle.monitor.specs.ReportOf.{stream_report}
use Rattle.monitor.specs.Rules.{fault}
use Rattle.monitor.proofs.LateFaults.{within}
use Rattle.monitor.proofs.RisingLists.{contains_from_has, has_from_contains}
use Rattle.monitor.proofs.SameOrder.{has}
use Rattle.laws_view.specs.Continuity.{broken_places}
use Rattle.laws_view.specs.CounterFaults.{BreaksAt, CounterFaultLaw, breaks_after, is_copy, is_second, turned}
use Rattle.laws_view.specs.FaultsByRule.{is_by, is_on, is_pid}
use Rattle.laws_view.proofs.EachCounter.{each_counter_law}
use Rattle.laws_view.proofs.FaultLists.{has_filter}
use Rattle.laws_view.proofs.References.{has_place}
use Rattle.laws_view.proofs.TableFaults.{place_is}

-- 1. The notes on earlier packets, given with the last packet first

abbrev kept : List Entry → Option LastView
kept [] = None
kept (last ∷ before) = Some (seen (mark (kept before) last))

and_of : (d a b c e : Bool) → (not d && a && b && c && e) ≡ (not d && (a && b && c && e))
and_of true a b c e = refl
and_of false a b c e = refl

second_is : (before : List Entry) (entry : Entry) → is_repeat (kept before) entry ≡ is_second before entry
unfolding is_repeat is_second repeats seen mark
second_is [] entry = refl
second_is (last ∷ before) entry =
    and_of (is_repeat (kept before) last) (is_some last.packet.payload) (is_some entry.packet.payload)
    (entry.packet.header.continuity_counter == last.packet.header.continuity_counter) (bytes_eq (content entry) (content last))
    ∙ ap (λ (t : Bool). not t && is_copy last entry) (second_is before last)

break_is : (before : List Entry) (entry : Entry) → is_some (break_at (kept before) entry) ≡ breaks_after before entry
unfolding break_at break_after breaks_after is_repeat seen mark
break_is [] entry = refl
break_is (last ∷ before) entry =
    by (repeats (seen (mark (kept before) last)) entry) (is_discontinuity entry.packet.adaptation) (entry.packet.header.continuity_counter == expected)
    ∙ ap (λ (t : Bool). not t && (not (is_discontinuity entry.packet.adaptation) && not (entry.packet.header.continuity_counter == expected)))
    (second_is (last ∷ before) entry)
  where
    expected : ℕ
    expected = following last.packet.header.continuity_counter (is_some entry.packet.payload)

    by : (r d c : Bool) →
        is_some {T = ℕ × ℕ} (cond r None (cond (d || c) None (Some (expected, entry.packet.header.continuity_counter)))) ≡ (not r && (not d && not c))
    by true d c = refl
    by false true c = refl
    by false false true = refl
    by false false false = refl

-- 2. The packets of a list at which the counter breaks

broken_in : (n : ℕ) (before entries : List Entry) → within n (broken_places (marked (kept before) entries)) → BreaksAt n (turned before entries)
unfolding turned mark
broken_in n before [] w = absurd w
broken_in n before (x ∷ entries) w = by (λ v. broken_in n (x ∷ before) entries v) (is_some (break_at (kept before) x)) refl w
  where
    rest : List Marked
    rest = marked (kept (x ∷ before)) entries

    by : (within n (broken_places rest) → BreaksAt n (turned (x ∷ before) entries)) → (t : Bool) → is_some (break_at (kept before) x) ≡ t →
        within n (map (λ m. m.entry.index) (cond t (mark (kept before) x ∷ filter (λ m. is_some m.broken) rest) (filter (λ m. is_some m.broken) rest))) →
        BreaksAt n (turned before (x ∷ entries))
    by later true e (inl s) =
        record { before = before; entry = x; later = entries; parts = refl; here = sym s; breaks = sym (break_is before x) ∙ e }
    by later true e (inr v) = later v
    by later false e v = later v

from_first : (n : ℕ) (before entries : List Entry) → within n (broken_places (marked (kept before) entries)) →
    within n (broken_places (marked None (turned before entries)))
unfolding turned mark
from_first n [] entries w = w
from_first n (x ∷ before) entries w = from_first n before (x ∷ entries) (by (is_some (break_at (kept before) x)) w)
  where
    rest : List Marked
    rest = marked (kept (x ∷ before)) entries

    by : (t : Bool) → within n (broken_places rest) →
        within n (map (λ m. m.entry.index) (cond t (mark (kept before) x ∷ filter (λ m. is_some m.broken) rest) (filter (λ m. is_some m.broken) rest)))
    by true v = inr v
    by false v = v

in_broken : (n : ℕ) (all : List Entry) → BreaksAt n all → within n (broken_places (marked None all))
unfolding mark
in_broken n all h =
    subst (λ (l : List Entry). within n (broken_places (marked None l))) (sym h.parts)
    (from_first n h.before (h.entry ∷ h.later) (by (is_some (break_at (kept h.before) h.entry)) (break_is h.before h.entry ∙ h.breaks)))
  where
    rest : List Marked
    rest = marked (kept (h.entry ∷ h.before)) h.later

    by : (t : Bool) → t ≡ true → within n (map (λ m. m.entry.index)
        (cond t (mark (kept h.before) h.entry ∷ filter (λ m. is_some m.broken) rest) (filter (λ m. is_some m.broken) rest)))
    by true e = inl (sym h.here)
    by false e = absurd (grind arith)

-- 3. The counter breaks in a report

pub counter_fault_law : CounterFaultLaw
unfolding stream_report rule_number is_pid turned
counter_fault_law rate given pid n bytes size real = (there, back)
  where
    z : StreamFault
    z = fault rules.Counter (Some pid) n

    all : List StreamFault
    all = (stream_report rate given bytes).faults

    broken : List ℕ
    broken = broken_places (marked None (pid_list pid bytes))

    itself : (pid == pid) ≡ true
    itself = grind (arith, nat_tests)

    in_part : has z (filter (is_on pid) (filter (is_by 4) all)) ≡ has z all
    in_part = has_filter (is_on pid) z (filter (is_by 4) all) ∙ rw itself (has_filter (is_by 4) z all)

    as_own : has z (filter (is_on pid) (filter (is_by 4) all)) ≡ has z (map (fault rules.Counter (Some pid)) broken)
    as_own = ap (has z) (each_counter_law rate given pid bytes size
        ∙ ap (λ (t : Bool). cond t [] (map (fault rules.Counter (Some pid)) broken)) real)

    there : Contains all z → BreaksAt n (pid_list pid bytes)
    there c = broken_in n [] (pid_list pid bytes) (place_is rules.Counter (Some pid) n broken (sym as_own ∙ in_part ∙ has_from_contains z all c))

    back : BreaksAt n (pid_list pid bytes) → Contains all z
    back h = contains_from_has z all (sym in_part ∙ as_own ∙ has_place rules.Counter (Some pid) n broken (in_broken n (pid_list pid bytes) h))
