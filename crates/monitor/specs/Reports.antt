-- The faults of a stream, group by group, and its report.
use Rattle.std.specs.Prelude.{ℕ, ◌-◌, ◌%◌, ◌==◌, not, length, Bool, if◌then◌else◌, List, [], ◌∷◌, ◌++◌, map, flat_map, Some}
use Rattle.ts_packet.specs.PidList.{cut_packets}
use Rattle.monitor.specs.declared.fault.StreamFault.{StreamFault}
use Rattle.monitor.specs.declared.fault.Rule.{Rule}
use Rattle.monitor.specs.declared.fault.Rule.TheVariants as rules
use Rattle.monitor.specs.declared.recurrence.LatePacket.{LatePacket}
use Rattle.monitor.specs.declared.program_maps.NamedMap.{NamedMap}
use Rattle.monitor.specs.declared.counts.PacketCounts.{PacketCounts}
use Rattle.monitor.specs.declared.counts.FindingCounts.{FindingCounts}
use Rattle.monitor.specs.declared.reports.PidCounts.{PidCounts}
use Rattle.monitor.specs.Gaps.{is_long}
use Rattle.monitor.specs.InOrder.{in_order}
use Rattle.monitor.specs.Counts.{finding_counts_of}
use Rattle.monitor.specs.FindingStates.{FindingState}
use Rattle.monitor.specs.PacketStates.{PacketState}
use Rattle.monitor.specs.MonitorStates.{MonitorState, none_taken, packets_taken, stream_ended}

-- a report: the number of whole packets, the counts of each PID, and the faults
pub record ReportView : Type 0 where
  pub packets : ℕ
  pub pids : List PidCounts
  pub faults : List StreamFault

abbrev pub late_fault : Rule → LatePacket → StreamFault
late_fault rule late = record { packet = late.packet; rule = rule; pid = Some late.pid }

-- a PID on which no program map section began for too long before the end
unfoldable pub ended_map : ℕ → ℕ → ℕ × NamedMap → List StreamFault
ended_map limit_times_rate packets entry = if is_long limit_times_rate (packets - entry.1.last)
    then record { packet = packets; rule = rules.Pmt; pid = Some entry.0 } ∷ [] else []

abbrev pub found_faults : ℕ → FindingState → List StreamFault
found_faults packets s = s.faults ++ map (late_fault rules.Pat) s.pat.marks.late ++ map (late_fault rules.Pmt) s.pmt.late
    ++ flat_map (ended_map s.pmt.limit_times_rate packets) s.pmt.named ++ map (late_fault rules.Nit) s.nit.marks.late
    ++ map (late_fault rules.Sdt) s.sdt.marks.late ++ map (late_fault rules.Eit) s.eit.marks.late
    ++ map (late_fault rules.Tdt) s.tdt.marks.late ++ map (late_fault rules.Pts) s.pts.late

unfoldable pub grouped_faults : ℕ → PacketState → FindingState → List StreamFault
grouped_faults packets seen found = seen.faults ++ map (late_fault rules.Pcr) seen.pcr.late ++ found_faults packets found

unfoldable pub all_faults : MonitorState → List StreamFault
all_faults s = grouped_faults s.packets s.seen s.found

abbrev pub pid_counts : List (ℕ × FindingCounts) → ℕ × PacketCounts → PidCounts
pid_counts finding_counts entry = let n = finding_counts_of entry.0 finding_counts in record {
  pid = entry.0;
  packets = entry.1.packets;
  starts = entry.1.starts;
  duplicates = n.duplicates;
  scrambled = n.scrambled;
}

unfoldable pub all_counts : MonitorState → List PidCounts
all_counts s = map (pid_counts s.found.finding_counts) s.seen.packet_counts

-- the report from the state of a stream
unfoldable pub report_of : MonitorState → ReportView
report_of s = record { packets = s.packets; pids = all_counts s; faults = in_order (all_faults s) }

-- a stream ends within a packet
abbrev pub is_cut : List ℕ → Bool
is_cut bytes = not (length bytes % 188 == 0)

-- the state after these bytes, which end the stream
unfoldable pub ended_after : MonitorState → List ℕ → MonitorState
ended_after s bytes = stream_ended (packets_taken s (cut_packets bytes)) (is_cut bytes)

-- the state of a whole stream after its end
unfoldable pub watched : ℕ → ℕ → List ℕ → MonitorState
watched rate pcr_limit bytes = ended_after (none_taken rate pcr_limit) bytes
