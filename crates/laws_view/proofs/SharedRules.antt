-- Rules that have one meaning in both programs.
use Rattle.std.proofs.Common.{◌≡◌, ◌∙◌, ℕ, ◌-◌, ◌*◌, ◌/◌, ◌^◌, ◌<◌, Bool, List, [], ◌∷◌, length, map, filter, refl, sym, ap}
use Rattle.std.specs.List.{enumerate_from}
use Rattle.ts_packet.specs.PidList.{cut_packets}
use Rattle.ts_watch.specs.Choices.{RequestView}
use Rattle.monitor.specs.declared.fault.StreamFault.{StreamFault}
use Rattle.monitor.specs.declared.fault.Rule.TheVariants as rules
use Rattle.monitor.specs.declared.recurrence.LatePacket.{LatePacket}
use Rattle.monitor.specs.InOrder.{in_order, rule_number}
use Rattle.monitor.specs.Faults.{faults_of, on_each, packet_pids, pcr_late}
use Rattle.monitor.specs.Recurrences.{marked_all, no_marks}
use Rattle.monitor.specs.ReportOf.{stream_report}
use Rattle.monitor.specs.Reports.{late_fault}
use Rattle.monitor.proofs.GroupedFaults.{pcr_alike}
use Rattle.monitor.proofs.PacketSteps.{pcr_pairs}
use Rattle.monitor.proofs.SameOrder.{has}
use Rattle.laws_view.specs.FaultsByRule.{is_by}
use Rattle.laws_view.specs.SharedRules.{IsShared, PcrLaw}
use Rattle.laws_view.specs.ViewedFaults.{faults_before_end, viewed_faults}
use Rattle.laws_view.proofs.Continuity.{counter_law}
use Rattle.laws_view.proofs.FaultGroups.{OfPackets, pcr_group, refusal_group}
use Rattle.laws_view.proofs.FaultLists.{alike_filter, part_in_order}
use Rattle.laws_view.proofs.ViewedClocks.{viewed_clocks}
use Rattle.laws_view.proofs.ViewedRules.{Refuses}
use Rattle.laws_view.proofs.WaitingPackets.{viewed_counters, viewed_refusals}

-- 1. Refusals

refused_law : (p : StreamFault → Bool) (rate limit : ℕ) (request : RequestView) (bytes : List ℕ) → OfPackets p → Refuses p → length bytes / 188 < 2 ^ 64 - 1 →
    filter p (in_order (faults_of rate limit bytes)) ≡ in_order (filter p (viewed_faults request bytes))
refused_law p rate limit request bytes h k n =
    part_in_order p (faults_of rate limit bytes) (filter p (viewed_faults request bytes))
    (λ z. ap (has z) (refusal_group p rate limit bytes h k.pcr ∙ sym (viewed_refusals p request bytes k n)))

sync_packets : OfPackets (is_by 1)
unfolding rule_number
sync_packets = record {
  counter = λ o k. refl;
  crc = λ o k. refl;
  section = λ o k. refl;
  pat = λ o k. refl;
  pmt = λ o k. refl;
  nit = λ o k. refl;
  sdt = λ o k. refl;
  eit = λ o k. refl;
  tdt = λ o k. refl;
  pts = λ o k. refl;
  cut = λ o k. refl;
}

sync_refuses : Refuses (is_by 1)
unfolding rule_number
sync_refuses = record { crc = λ o k. refl; nit = λ o k. refl; sdt = λ o k. refl; tdt = λ o k. refl; pcr = λ o k. refl; counter = λ o k. refl }

pub sync_law : IsShared rules.Sync
unfolding stream_report rule_number
sync_law rate limit request bytes n = refused_law (is_by 1) rate limit request bytes sync_packets sync_refuses n

packet_packets : OfPackets (is_by 2)
unfolding rule_number
packet_packets = record {
  counter = λ o k. refl;
  crc = λ o k. refl;
  section = λ o k. refl;
  pat = λ o k. refl;
  pmt = λ o k. refl;
  nit = λ o k. refl;
  sdt = λ o k. refl;
  eit = λ o k. refl;
  tdt = λ o k. refl;
  pts = λ o k. refl;
  cut = λ o k. refl;
}

packet_refuses : Refuses (is_by 2)
unfolding rule_number
packet_refuses = record { crc = λ o k. refl; nit = λ o k. refl; sdt = λ o k. refl; tdt = λ o k. refl; pcr = λ o k. refl; counter = λ o k. refl }

pub packet_law : IsShared rules.Packet
unfolding stream_report rule_number
packet_law rate limit request bytes n = refused_law (is_by 2) rate limit request bytes packet_packets packet_refuses n

error_packets : OfPackets (is_by 3)
unfolding rule_number
error_packets = record {
  counter = λ o k. refl;
  crc = λ o k. refl;
  section = λ o k. refl;
  pat = λ o k. refl;
  pmt = λ o k. refl;
  nit = λ o k. refl;
  sdt = λ o k. refl;
  eit = λ o k. refl;
  tdt = λ o k. refl;
  pts = λ o k. refl;
  cut = λ o k. refl;
}

error_refuses : Refuses (is_by 3)
unfolding rule_number
error_refuses = record { crc = λ o k. refl; nit = λ o k. refl; sdt = λ o k. refl; tdt = λ o k. refl; pcr = λ o k. refl; counter = λ o k. refl }

pub error_law : IsShared rules.Error
unfolding stream_report rule_number
error_law rate limit request bytes n = refused_law (is_by 3) rate limit request bytes error_packets error_refuses n

-- 2. Counters

pub counter_shared : IsShared rules.Counter
unfolding rule_number
counter_shared rate limit request bytes n = counter_law rate limit bytes n ∙ ap in_order (sym (viewed_counters request bytes n))

-- 3. Clock references

late_pcr : (lates : List LatePacket) → filter (is_by 13) (map (late_fault rules.Pcr) lates) ≡ map (late_fault rules.Pcr) lates
unfolding rule_number
late_pcr [] = refl
late_pcr (x ∷ lates) = ap (λ (xs : List StreamFault). late_fault rules.Pcr x ∷ xs) (late_pcr lates)

pcr_packets : OfPackets (is_by 13)
unfolding rule_number
pcr_packets = record {
  counter = λ o k. refl;
  crc = λ o k. refl;
  section = λ o k. refl;
  pat = λ o k. refl;
  pmt = λ o k. refl;
  nit = λ o k. refl;
  sdt = λ o k. refl;
  eit = λ o k. refl;
  tdt = λ o k. refl;
  pts = λ o k. refl;
  cut = λ o k. refl;
}

pub pcr_law : PcrLaw
unfolding stream_report rule_number
pcr_law rate request bytes at some short =
    part_in_order (is_by 13) (faults_of rate 100 bytes) (filter (is_by 13) (faults_before_end request bytes))
    (λ z. ap (has z) (pcr_group (is_by 13) rate 100 bytes pcr_packets (λ o k. refl) (λ o k. refl) (λ o k. refl))
    ∙ alike_filter (is_by 13) (on_each rules.Pcr (pcr_late rate 100 bytes) (packet_pids bytes)) (map (late_fault rules.Pcr) lates)
    (λ y. sym (pcr_alike rate 100 bytes y)) z
    ∙ ap (has z) (late_pcr lates ∙ sym (viewed_clocks rate request bytes at some short)))
  where
    lates : List LatePacket
    lates = (marked_all (no_marks (100 * rate)) (pcr_pairs (enumerate_from 0 (cut_packets bytes)))).late
