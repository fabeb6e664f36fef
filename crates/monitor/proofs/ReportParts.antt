-- A report and its parts.
use Rattle.std.proofs.Common.{◌≡◌, ℕ, List, map, ap, ap₂, ◌∙◌}
use Rattle.demux.specs.Stream.{StreamState}
use Rattle.monitor.specs.declared.counts.FindingCounts.{FindingCounts}
use Rattle.monitor.specs.declared.counts.PacketCounts.{PacketCounts}
use Rattle.monitor.specs.declared.fault.StreamFault.{StreamFault}
use Rattle.monitor.specs.declared.reports.PidCounts.{PidCounts}
use Rattle.monitor.specs.FindingStates.{FindingState}
use Rattle.monitor.specs.InOrder.{in_order}
use Rattle.monitor.specs.MonitorStates.{MonitorState}
use Rattle.monitor.specs.PacketStates.{PacketState}
use Rattle.monitor.specs.Reports.{ReportView, all_counts, all_faults, grouped_faults, pid_counts, report_of}

-- The sorted counts of the PIDs and the sorted faults make a report.
pub reported : (s : MonitorState) (demux : StreamState) (packets : ℕ) (seen : PacketState) (found : FindingState) (pids : List PidCounts)
    (faults : List StreamFault)
    (finding_counts : List (ℕ × FindingCounts)) (packet_counts : List (ℕ × PacketCounts)) →
    record { demux = demux; packets = packets; seen = seen; found = found } ≡ s →
    pids ≡ map (pid_counts finding_counts) packet_counts → finding_counts ≡ found.finding_counts → packet_counts ≡ seen.packet_counts →
    faults ≡ in_order (grouped_faults packets seen found) → record { packets = packets; pids = pids; faults = faults } ≡ report_of s
unfolding report_of all_counts all_faults
reported s demux packets seen found pids faults finding_counts packet_counts view counted findings counts ordered =
    let report : List PidCounts → List StreamFault → ReportView = λ ps fs. record { packets = packets; pids = ps; faults = fs } in
    let all : pids ≡ map (pid_counts found.finding_counts) seen.packet_counts =
    counted ∙ ap₂ (λ (ns : List (ℕ × FindingCounts)) (es : List (ℕ × PacketCounts)). map (pid_counts ns) es) findings counts in
    ap₂ report all ordered ∙ ap report_of view
