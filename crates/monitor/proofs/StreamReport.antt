-- The report that the monitor computes from its state is the report of the stream's packets and findings.
use Rattle.std.proofs.Common.{◌≡◌, ℕ, zero-add, ◌+◌, ◌-◌, ◌*◌, ◌/◌, ◌%◌, ◌^◌, ◌<◌, ◌==◌, Bool, true, false, cond, nat_eq, List, [], ◌∷◌, ◌++◌, length, map}
use Rattle.std.proofs.Common.{Option, None, refl, sym, ap, ap₂, subst, ◌∙◌, arith, append_assoc}
use Rattle.std.specs.Prelude.{not}
use Rattle.std.specs.List.{enumerate_from, flat_map}
use Rattle.std.specs.Map.{lookup}
use Rattle.std.proofs.lemmas.List.{append-nil}
use Rattle.ts_packet.specs.PidList.{cut_packets}
use Rattle.demux.specs.Stream.{StreamState, ended_found, finished, start}
use Rattle.demux.specs.StreamBodies.{states_without_bodies}
use Rattle.demux.proofs.StreamBodies.{flat_same}
use Rattle.demux.specs.FoundSoFar.{found_in_all, taken_all}
use Rattle.monitor.specs.declared.fault.StreamFault.{StreamFault}
use Rattle.monitor.specs.declared.fault.Rule.TheVariants as rules
use Rattle.monitor.specs.declared.counts.PacketCounts.{PacketCounts}
use Rattle.monitor.specs.declared.counts.FindingCounts.{FindingCounts}
use Rattle.monitor.specs.declared.reports.PidCounts.{PidCounts}
use Rattle.monitor.specs.Counts.{packet_counts_or_zero}
use Rattle.monitor.specs.Recurrences.{RecurrenceState}
use Rattle.monitor.specs.ProgramMaps.{no_maps}
use Rattle.monitor.specs.TableStates.{new_watch, table_marked}
use Rattle.monitor.specs.PacketStates.{PacketState, no_packets, packet_failed}
use Rattle.monitor.specs.FindingStates.{FindingState, all_noted, none_noted}
use Rattle.monitor.specs.MonitorStates.{MonitorState, found_to_end, none_taken, packet_taken, packets_taken, pat_marked, seen_to_end, stream_ended}
use Rattle.monitor.specs.Reports.{ended_after, ReportView, all_counts, all_faults, ended_map, grouped_faults, is_cut, late_fault, found_faults, pid_counts}
use Rattle.monitor.specs.Reports.{report_of, watched}
use Rattle.monitor.specs.Rules.{fault}
use Rattle.monitor.specs.InOrder.{in_order}
use Rattle.monitor.specs.CountsOfPids.{counts_of, counts_of_all, first_seen}
use Rattle.monitor.specs.Faults.{cut_faults, faults_of, faults_of_findings, faults_of_packets, packet_pids}
use Rattle.monitor.specs.Begins.{found_on}
use Rattle.monitor.specs.ReportOf.{stream_report}
use Rattle.monitor.specs.Laws.{PacketByPacket, ReportWithoutState}
use Rattle.monitor.proofs.SameOrder.{in_order_same}
use Rattle.monitor.proofs.LateFaults.{alike, alike_append, alike_is}
use Rattle.monitor.proofs.PacketSteps.{carried_all, noted_append, seen_all, seen_carried, seen_faults, seen_pcr, starts_of, taken_count, taken_demux}
use Rattle.monitor.proofs.PacketSteps.{taken_found, taken_seen}
use Rattle.monitor.proofs.FindingSteps.{all_is, counts_of_found, faults_of_all, maps_of_all, table_of_all}
use Rattle.monitor.proofs.Tallies.{carried_is, noted_is}
use Rattle.monitor.proofs.FirstSeen.{by_keys, carried_unique, keys_first_seen, pids_are}
use Rattle.monitor.proofs.HeaderFindings.{all_alike}
use Rattle.monitor.proofs.FoundWhole.{begun_whole, ended_whole, found_whole, of_each, packet_count, rises}
use Rattle.monitor.proofs.LateMapsToEnd.{maps_alike}
use Rattle.monitor.proofs.GroupedFaults.{findings_alike, pat_group, pcr_alike, pts_alike, table_group}

-- 1. The state at the end of a whole stream

whole_seen : ℕ → ℕ → List ℕ → PacketState
whole_seen rate limit bytes = seen_to_end (seen_all (no_packets (limit * rate)) (enumerate_from 0 (cut_packets bytes))) (length bytes / 188) (is_cut bytes)

whole_found : ℕ → List ℕ → FindingState
whole_found rate bytes = pat_marked (all_noted (none_noted rate) (found_whole bytes)) (length bytes / 188)

record Parts (rate limit : ℕ) (bytes : List ℕ) (s : MonitorState) : Type 0 where
  packets : s.packets ≡ length bytes / 188
  seen : s.seen ≡ whole_seen rate limit bytes
  found : s.found ≡ whole_found rate bytes

parts : (rate limit : ℕ) (bytes : List ℕ) → length bytes / 188 < 2 ^ 64 - 1 → Parts rate limit bytes (watched rate limit bytes)
unfolding watched ended_after stream_ended found_to_end whole_seen whole_found
parts rate limit bytes n =
    let packets = cut_packets bytes in
    let none = none_taken rate limit in
    let s = packets_taken none packets in
    let size : length packets ≡ length bytes / 188 = packet_count (length bytes / 188) bytes in
    let fits : 0 + length packets < 2 ^ 64 = omega arith in
    let count : s.packets ≡ length bytes / 188 = taken_count none packets fits ∙ zero-add (length packets) ∙ size in
    let t = taken_all start packets in
    let found : s.found ≡ all_noted (none_noted rate) (found_in_all start packets) = taken_found none start packets refl in
    let all : all_noted s.found (ended_found s.demux.packets s.demux.states) ≡ all_noted (none_noted rate) (found_whole bytes) =
    ap₂ (λ (m : FindingState) (d : StreamState). all_noted m (ended_found d.packets d.states)) found (taken_demux none start packets refl)
    ∙ all_alike (all_noted (none_noted rate) (found_in_all start packets)) (ended_found t.packets (states_without_bodies t.states))
    (ended_found t.packets t.states) (flat_same t.packets t.states)
    ∙ ap (all_noted (all_noted (none_noted rate) (found_in_all start packets))) (sym (ended_whole bytes))
    ∙ sym (noted_append (none_noted rate) (found_in_all start packets) (finished t).found) in record {
      packets = count;
      seen = ap₂ (λ (m : PacketState) (c : ℕ). seen_to_end m c (is_cut bytes)) (taken_seen none packets fits) count;
      found = ap₂ pat_marked all count;
    }

-- 2. The faults

cut_is : (seen : PacketState) (bytes : List ℕ) → (seen_to_end seen (length bytes / 188) (is_cut bytes)).faults ≡ seen.faults ++ cut_faults bytes
unfolding seen_to_end
cut_is seen bytes = by (length bytes % 188 == 0)
  where
    by : (t : Bool) → (cond (not t) (packet_failed seen (length bytes / 188) rules.Cut) seen).faults ≡ seen.faults
        ++ cond t [] (fault rules.Cut None (length bytes / 188) ∷ [])
    by true = sym (append-nil seen.faults)
    by false = refl

cut_keeps : (seen : PacketState) (count : ℕ) (cut : Bool) →
    ((seen_to_end seen count cut).pcr ≡ seen.pcr) × ((seen_to_end seen count cut).packet_counts ≡ seen.packet_counts)
unfolding seen_to_end
cut_keeps seen count true = (refl, refl)
cut_keeps seen count false = (refl, refl)

packets_alike : (rate limit : ℕ) (bytes : List ℕ) →
    alike ((whole_seen rate limit bytes).faults ++ map (late_fault rules.Pcr) (whole_seen rate limit bytes).pcr.late) (faults_of_packets rate limit bytes)
unfolding whole_seen
packets_alike rate limit bytes =
    let ps = enumerate_from 0 (cut_packets bytes) in
    let seen = seen_all (no_packets (limit * rate)) ps in
    let pcr : (seen_to_end seen (length bytes / 188) (is_cut bytes)).pcr ≡ _ = (cut_keeps seen (length bytes / 188) (is_cut bytes)).0
    ∙ seen_pcr (no_packets (limit * rate)) ps in
    alike_append _ _ _ _
    (alike_is _ _ (cut_is seen bytes ∙ ap (λ (xs : List StreamFault). xs ++ cut_faults bytes) (seen_faults (no_packets (limit * rate)) ps)))
    (λ z. alike_is _ _ (ap (λ (m : RecurrenceState). map (late_fault rules.Pcr) m.late) pcr) z ∙ pcr_alike rate limit bytes z)

findings_part : (rate : ℕ) (bytes : List ℕ) → length bytes / 188 < 2 ^ 64 - 1 →
    alike (found_faults (length bytes / 188) (whole_found rate bytes)) (faults_of_findings rate bytes)
unfolding whole_found pat_marked
findings_part rate bytes n =
    let found = found_whole bytes in
    let count = length bytes / 188 in
    let none = none_noted rate in
    let maps = maps_of_all (no_maps (500 * rate)) found in
    subst (λ (m : FindingState). alike (found_faults count (pat_marked m count)) (faults_of_findings rate bytes)) (sym (all_is none found))
    (alike_append _ _ _ _
    (alike_append _ _ _ _
    (alike_append _ _ _ _
    (alike_append _ _ _ _
    (alike_append _ _ _ _
    (λ z. alike_is _ _
    (append_assoc
    (faults_of_all found ++ map (late_fault rules.Pat) (table_marked (table_of_all (table_marked (new_watch 0 0 (500 * rate)) 0) found) count).marks.late)
    (map (late_fault rules.Pmt) maps.late) (flat_map (ended_map maps.limit_times_rate count) maps.named)) z
    ∙ alike_append _ _ _ _ (alike_append _ _ _ _ (findings_alike bytes n) (alike_is _ _ (pat_group rate count bytes n refl)))
    (maps_alike rate count found (λ pid. found_on pid bytes) (of_each bytes n) (rises bytes n) (begun_whole bytes n)) z)
    (alike_is _ _ (table_group rules.Nit rate 10000 0x10 0x40 bytes n)))
    (alike_is _ _ (table_group rules.Sdt rate 2000 0x11 0x42 bytes n)))
    (alike_is _ _ (table_group rules.Eit rate 2000 0x12 0x4E bytes n)))
    (alike_is _ _ (table_group rules.Tdt rate 30000 0x14 0x70 bytes n)))
    (pts_alike rate bytes n))

faults_are : (rate limit : ℕ) (bytes : List ℕ) → length bytes / 188 < 2 ^ 64 - 1 →
    in_order (grouped_faults (length bytes / 188) (whole_seen rate limit bytes) (whole_found rate bytes)) ≡ in_order (faults_of rate limit bytes)
unfolding grouped_faults faults_of
faults_are rate limit bytes n =
    in_order_same _ _ (alike_append _ _ _ _ (packets_alike rate limit bytes) (findings_part rate bytes n))

-- 3. The counts

map_same : (f g : ℕ → PidCounts) (xs : List ℕ) → ((k : ℕ) → f k ≡ g k) → map f xs ≡ map g xs
map_same f g [] h = refl
map_same f g (x ∷ xs) h = ap₂ (λ (y : PidCounts) (ys : List PidCounts). y ∷ ys) (h x) (map_same f g xs h)

counts_by : List (ℕ × FindingCounts) → Option PacketCounts → ℕ → PidCounts
counts_by finding_counts o pid = pid_counts finding_counts (pid, packet_counts_or_zero o)

counts_are : (rate limit : ℕ) (bytes : List ℕ) → length bytes / 188 < 2 ^ 64 - 1 →
    map (pid_counts (whole_found rate bytes).finding_counts) (whole_seen rate limit bytes).packet_counts ≡ counts_of_all bytes
unfolding whole_found whole_seen pat_marked counts_by packet_counts_or_zero counts_of
counts_are rate limit bytes n =
    let ps = enumerate_from 0 (cut_packets bytes) in
    let found = found_whole bytes in
    let finding_counts = counts_of_found [] found in
    let packet_counts = carried_all [] (starts_of ps) in
    let seen = seen_all (no_packets (limit * rate)) ps in
    let a : (seen_to_end seen (length bytes / 188) (is_cut bytes)).packet_counts ≡ packet_counts = (cut_keeps seen (length bytes / 188) (is_cut bytes)).1
    ∙ seen_carried (no_packets (limit * rate)) ps in
    let b : (all_noted (none_noted rate) found).finding_counts ≡ finding_counts =
    ap (λ (m : FindingState). m.finding_counts) (all_is (none_noted rate) found) in
    ap₂ (λ (x : List (ℕ × FindingCounts)) (y : List (ℕ × PacketCounts)). map (pid_counts x) y) b a
    ∙ by_keys (counts_by finding_counts) packet_counts (carried_unique [] (starts_of ps) tt)
    ∙ ap (map (λ k. counts_by finding_counts (lookup (nat_eq k) packet_counts) k)) (keys_first_seen (starts_of ps) ∙ ap first_seen (pids_are ps))
    ∙ map_same (λ k. counts_by finding_counts (lookup (nat_eq k) packet_counts) k) (counts_of bytes) (first_seen (packet_pids bytes))
    (λ k. ap₂ (λ (c : PacketCounts) (d : FindingCounts). record {
      pid = k;
      packets = c.packets;
      starts = c.starts;
      duplicates = d.duplicates;
      scrambled =
          d.scrambled;
    })
    (carried_is k ps) (noted_is k found (found_on k bytes) (of_each bytes n k)))

-- 4. The report

pub report_without_state : ReportWithoutState
unfolding report_of stream_report all_faults all_counts
report_without_state rate limit bytes n =
    let p = parts rate limit bytes n in
    let w = watched rate limit bytes in
    let of : ℕ → PacketState → FindingState → ReportView = λ (count : ℕ) (seen : PacketState) (found : FindingState). record {
      packets = count;
      pids = map (pid_counts found.finding_counts) seen.packet_counts;
      faults = in_order (grouped_faults count seen found);
    } in
    ap₂ (λ (count : ℕ) (seen : PacketState). of count seen w.found) p.packets p.seen
    ∙ ap (of (length bytes / 188) (whole_seen rate limit bytes)) p.found
    ∙ ap₂ (λ (pids : List PidCounts) (faults : List StreamFault). record { packets = length bytes / 188; pids = pids; faults = faults })
    (counts_are rate limit bytes n) (faults_are rate limit bytes n)

-- 5. The state after each packet

taken_more : (s : MonitorState) (packets : List (List ℕ)) (packet : List ℕ) →
    packet_taken (packets_taken s packets) packet ≡ packets_taken s (packets ++ packet ∷ [])
unfolding packets_taken
taken_more s [] packet = refl
taken_more s (first ∷ packets) packet = taken_more (packet_taken s first) packets packet

pub packet_by_packet : PacketByPacket
unfolding packets_taken watched ended_after
packet_by_packet rate limit = (refl, taken_more (none_taken rate limit), report_without_state rate limit)
