-- The faults in the monitor's state, in each group, are the faults of the stream's packets and findings.
use Rattle.std.proofs.Common.{◌⊎◌, inl, inr, ◌≡◌, ℕ, ◌-◌, ◌*◌, ◌/◌, ◌^◌, ◌<◌, ◌==◌, Bool, true, false, cond, List, [], ◌∷◌, ◌++◌, length, map, filter, Some}
use Rattle.std.proofs.Common.{refl, sym, ap, ap₂, subst, ◌∙◌, arith}
use Rattle.std.specs.Prelude.{not, ◌&&◌}
use Rattle.std.specs.List.{enumerate_from, filter_map, flat_map}
use Rattle.std.proofs.lemmas.List.{map-append}
use Rattle.std.proofs.lemmas.Bool.Decides.{nat_tests}
use Rattle.ts_packet.specs.PidList.{Entry, cut_packets, entries_of, is_of_pid, pid_list}
use Rattle.pid_findings.specs.Views.{PidFinding, FindingView}
use Rattle.pid_findings.specs.Findings.{ended, findings_after, findings_to_end, open_after, stretch, divider}
use Rattle.monitor.specs.declared.fault.StreamFault.{StreamFault}
use Rattle.monitor.specs.declared.fault.Rule.{Rule}
use Rattle.monitor.specs.declared.fault.Rule.TheVariants as rules
use Rattle.monitor.specs.Gaps.{late}
use Rattle.monitor.specs.Recurrences.{RecurrenceState, marked, marked_all, no_marks}
use Rattle.monitor.specs.TableStates.{TableState, new_watch, table_marked}
use Rattle.monitor.specs.Reports.{late_fault}
use Rattle.monitor.specs.Rules.{fault}
use Rattle.monitor.specs.Begins.{found_on, pcr_places, pts_begin, pts_begins, table_begin, table_begins}
use Rattle.monitor.specs.Faults.{finding_faults, on_each, packet_pids, pat_late, pcr_late, pts_late, table_late}
use Rattle.monitor.proofs.SameOrder.{has}
use Rattle.monitor.proofs.LatePlaces.{gaps_of_each_pid, same_number}
use Rattle.monitor.proofs.LateFaults.{alike, late_on_each, within}
use Rattle.monitor.proofs.PacketSteps.{marked_append, pcr_pairs, pcr_places_of}
use Rattle.monitor.proofs.FindingSteps.{faults_of_all, pts_of_all, table_of_all}
use Rattle.monitor.proofs.TableBegins.{begins_in, begins_reported, late_from_none, on_pid, pts_is, pts_pairs, pts_places_of, pts_reported, table_is}
use Rattle.monitor.proofs.FindingFaults.{findings_on_each}
use Rattle.monitor.proofs.FoundWhole.{found_whole, of_each}

-- 1. PIDs without packets, which have no findings

listed_or : (pid : ℕ) (entries : List Entry) → (filter (λ entry. is_of_pid pid entry.packet) entries ≡ [])
    ⊎ within pid (map (λ entry. entry.packet.header.pid) (filter (λ entry. not entry.packet.header.transport_error_indicator) entries))
listed_or pid [] = inl refl
listed_or pid (x ∷ entries) = by (x.packet.header.pid == pid) refl x.packet.header.transport_error_indicator (listed_or pid entries)
  where
    of : List Entry
    of = filter (λ entry. is_of_pid pid entry.packet) entries

    good : List Entry
    good = filter (λ entry. not entry.packet.header.transport_error_indicator) entries

    later : (of ≡ []) ⊎ within pid (map (λ entry. entry.packet.header.pid) good) →
        (of ≡ []) ⊎ within pid (x.packet.header.pid ∷ map (λ entry. entry.packet.header.pid) good)
    later (inl h) = inl h
    later (inr h) = inr (inr h)

    by : (t : Bool) → (x.packet.header.pid == pid) ≡ t → (e : Bool) → (of ≡ []) ⊎ within pid (map (λ entry. entry.packet.header.pid) good) →
        (cond (t && not e) (x ∷ of) of ≡ []) ⊎ within pid (map (λ entry. entry.packet.header.pid) (cond (not e) (x ∷ good) good))
    by true f true h = h
    by true f false h = inr (inl (sym (same_number x.packet.header.pid pid f)))
    by false f true h = h
    by false f false h = later h

pub has_packets : (pid : ℕ) (bytes : List ℕ) → (pid_list pid bytes ≡ []) ⊎ within pid (packet_pids bytes)
has_packets pid bytes = listed_or pid (entries_of bytes)

nothing_found : (count : ℕ) → findings_to_end count [] ≡ []
unfolding findings_after ended open_after stretch divider
nothing_found count = refl

none_on : (pid : ℕ) (bytes : List ℕ) → pid_list pid bytes ≡ [] → found_on pid bytes ≡ []
none_on pid bytes e = by (pid == 8191)
  where
    by : (t : Bool) → cond t [] (findings_to_end (length bytes / 188) (pid_list pid bytes)) ≡ []
    by true = refl
    by false = ap (findings_to_end (length bytes / 188)) e ∙ nothing_found (length bytes / 188)

-- 2. Clock references and PES packets with a PTS, on each PID

pub pcr_alike : (rate limit : ℕ) (bytes : List ℕ) →
    alike (map (late_fault rules.Pcr) (marked_all (no_marks (limit * rate)) (pcr_pairs (enumerate_from 0 (cut_packets bytes)))).late)
    (on_each rules.Pcr (pcr_late rate limit bytes) (packet_pids bytes))
pcr_alike rate limit bytes = late_on_each rules.Pcr (marked_all (no_marks (limit * rate)) pairs).late (pcr_late rate limit bytes) (packet_pids bytes)
    (λ pid. gaps_of_each_pid rate limit pid pairs ∙ ap (late rate limit) (pcr_places_of pid (enumerate_from 0 (cut_packets bytes))))
    (λ pid x h. by pid x h (has_packets pid bytes))
  where
    pairs : List (ℕ × ℕ)
    pairs = pcr_pairs (enumerate_from 0 (cut_packets bytes))

    by : (pid x : ℕ) → within x (pcr_late rate limit bytes pid) → (pid_list pid bytes ≡ []) ⊎ within pid (packet_pids bytes) → within pid (packet_pids bytes)
    by pid x h (inl e) = absurd (subst (λ (es : List Entry). within x (late rate limit (pcr_places es))) e h)
    by pid x h (inr k) = k

pub pts_alike : (rate : ℕ) (bytes : List ℕ) → length bytes / 188 < 2 ^ 64 - 1 →
    alike (map (late_fault rules.Pts) (pts_of_all (no_marks (700 * rate)) (found_whole bytes)).late)
    (on_each rules.Pts (pts_late rate bytes) (packet_pids bytes))
pts_alike rate bytes n =
    subst (λ (m : RecurrenceState). alike (map (late_fault rules.Pts) m.late) (on_each rules.Pts (pts_late rate bytes) (packet_pids bytes)))
    (sym (pts_is (no_marks (700 * rate)) found))
    (late_on_each rules.Pts (marked_all (no_marks (700 * rate)) pairs).late (pts_late rate bytes) (packet_pids bytes)
    (λ pid. gaps_of_each_pid rate 700 pid pairs
    ∙ ap (late rate 700) (pts_places_of pid found ∙ ap (filter_map (λ f. pts_begin f.begun)) (of_each bytes n pid) ∙ pts_reported pid (found_on pid bytes)))
    (λ pid x h. by pid x h (has_packets pid bytes)))
  where
    found : List FindingView
    found = found_whole bytes

    pairs : List (ℕ × ℕ)
    pairs = pts_pairs (found_whole bytes)

    by : (pid x : ℕ) → within x (pts_late rate bytes pid) → (pid_list pid bytes ≡ []) ⊎ within pid (packet_pids bytes) → within pid (packet_pids bytes)
    by pid x h (inl e) = absurd (subst (λ (at : List PidFinding). within x (late rate 700 (pts_begins at))) (none_on pid bytes e) h)
    by pid x h (inr k) = k

-- 3. Findings that are faults by themselves

no_false : true ≡ false → ⊥
no_false e = grind arith

pub findings_alike : (bytes : List ℕ) → length bytes / 188 < 2 ^ 64 - 1 →
    alike (faults_of_all (found_whole bytes)) (flat_map (λ pid. finding_faults pid (found_on pid bytes)) (packet_pids bytes))
unfolding has
findings_alike bytes n =
    findings_on_each (found_whole bytes) (λ pid. found_on pid bytes) (packet_pids bytes) (of_each bytes n) (λ pid z h. by pid z h (has_packets pid bytes))
  where
    by : (pid : ℕ) (z : StreamFault) → has z (finding_faults pid (found_on pid bytes)) ≡ true → (pid_list pid bytes ≡ []) ⊎ within pid (packet_pids bytes) →
        within pid (packet_pids bytes)
    by pid z h (inl e) = absurd (no_false (sym (subst (λ (at : List PidFinding). has z (finding_faults pid at) ≡ true) (none_on pid bytes e) h)))
    by pid z h (inr k) = k

-- 4. Tables

begins_whole : (pid table_id : ℕ) (bytes : List ℕ) → length bytes / 188 < 2 ^ 64 - 1 →
    begins_in pid table_id (found_whole bytes) ≡ table_begins table_id (found_on pid bytes)
begins_whole pid table_id bytes n = ap (filter_map (λ f. table_begin table_id f.begun)) (of_each bytes n pid)
    ∙ begins_reported table_id pid (found_on pid bytes)

itself : (pid : ℕ) → (pid == pid) ≡ true
itself pid = grind (arith, nat_tests)

pub table_group : (rule : Rule) (rate limit pid table_id : ℕ) (bytes : List ℕ) → length bytes / 188 < 2 ^ 64 - 1 →
    map (late_fault rule) (table_of_all (new_watch pid table_id (limit * rate)) (found_whole bytes)).marks.late ≡ map (fault rule (Some pid))
    (table_late rate limit pid table_id bytes)
table_group rule rate limit pid table_id bytes n =
    ap (λ (t : TableState). map (late_fault rule) t.marks.late) (table_is (new_watch pid table_id (limit * rate)) (found_whole bytes))
    ∙ ap (λ (xs : List ℕ). map (late_fault rule) (marked_all (no_marks (limit * rate)) (on_pid pid xs)).late) (begins_whole pid table_id bytes n)
    ∙ late_from_none rule rate limit pid (table_begins table_id (found_on pid bytes)) (itself pid)

-- The marks of the program association table, from the begin of the stream to its end
pat_marks : (limit_times_rate count : ℕ) (xs : List ℕ) →
    marked (marked_all (marked (no_marks limit_times_rate) 0 0) (on_pid 0 xs)) 0 count ≡ marked_all (no_marks limit_times_rate)
    (on_pid 0 (0 ∷ xs ++ count ∷ []))
unfolding marked_all
pat_marks limit_times_rate count xs =
    sym (marked_append (marked (no_marks limit_times_rate) 0 0) (on_pid 0 xs) ((0, count) ∷ []))
    ∙ ap (marked_all (marked (no_marks limit_times_rate) 0 0)) (sym (map-append (λ x. (0, x)) xs (count ∷ [])))

pub pat_group : (rate count : ℕ) (bytes : List ℕ) → length bytes / 188 < 2 ^ 64 - 1 → count ≡ length bytes / 188 →
    map (late_fault rules.Pat) (table_marked (table_of_all (table_marked (new_watch 0 0 (500 * rate)) 0) (found_whole bytes)) count).marks.late
    ≡ map (fault rules.Pat (Some 0)) (pat_late rate bytes)
pat_group rate count bytes n e =
    ap (λ (t : TableState). map (late_fault rules.Pat) (marked t.marks t.pid count).late)
    (table_is (table_marked (new_watch 0 0 (500 * rate)) 0) (found_whole bytes))
    ∙ ap₂ (λ (xs : List ℕ) (c : ℕ). map (late_fault rules.Pat) (marked (marked_all (marked (no_marks (500 * rate)) 0 0) (on_pid 0 xs)) 0 c).late)
    (begins_whole 0 0 bytes n) e
    ∙ ap (λ (m : RecurrenceState). map (late_fault rules.Pat) m.late) (pat_marks (500 * rate) (length bytes / 188) (table_begins 0 (found_on 0 bytes)))
    ∙ late_from_none rules.Pat rate 500 0 (0 ∷ table_begins 0 (found_on 0 bytes) ++ (length bytes / 188) ∷ []) (itself 0)
