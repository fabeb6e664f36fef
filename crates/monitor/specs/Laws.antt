-- What the laws of this crate say.
use Rattle.std.specs.Prelude.{◌≡◌, ℕ, ◌*◌, ◌/◌, ◌-◌, ◌^◌, ◌<◌, ◌==◌, List, [], ◌∷◌, ◌++◌, length, map, filter}
use Rattle.monitor.specs.declared.recurrence.LatePacket.{LatePacket}
use Rattle.monitor.specs.Gaps.{late}
use Rattle.monitor.specs.Recurrences.{marked_all, no_marks}
use Rattle.monitor.specs.Reports.{is_cut, report_of, watched}
use Rattle.monitor.specs.MonitorStates.{none_taken, packet_taken, packets_taken, stream_ended}
use Rattle.ts_packet.specs.PidList.{cut_packets}
use Rattle.monitor.specs.ReportOf.{stream_report}

-- the places of one PID
abbrev pub places_of : ℕ → List (ℕ × ℕ) → List ℕ
places_of pid places = map (λ p. p.1) (filter (λ p. p.0 == pid) places)

abbrev pub late_of : ℕ → List LatePacket → List ℕ
late_of pid found = map (λ l. l.packet) (filter (λ l. l.pid == pid) found)

-- the places of a PID that are found late one by one, with a state that keeps the last place of each PID, are the places that a
-- filter over its successive places gives
abbrev pub GapsOfEachPid : Type 0
GapsOfEachPid = (rate limit pid : ℕ) (places : List (ℕ × ℕ)) →
    late_of pid (marked_all (no_marks (limit * rate)) places).late ≡ late rate limit (places_of pid places)

-- the report from the state that is kept packet by packet is the report of the stream's packets and their findings
abbrev pub ReportWithoutState : Type 0
ReportWithoutState = (rate limit : ℕ) (bytes : List ℕ) → length bytes / 188 < 2 ^ 64 - 1 → report_of (watched rate limit bytes) ≡ stream_report rate limit bytes

-- the state after whole packets: before the first, after one more, and the report at the end of a stream
abbrev pub PacketByPacket : Type 0
PacketByPacket = (rate limit : ℕ) →
    (none_taken rate limit ≡ packets_taken (none_taken rate limit) [])
    × ((packets : List (List ℕ)) (packet : List ℕ) →
    packet_taken (packets_taken (none_taken rate limit) packets) packet ≡ packets_taken (none_taken rate limit) (packets ++ packet ∷ []))
    × ((bytes : List ℕ) → length bytes / 188 < 2 ^ 64 - 1 →
    report_of (stream_ended (packets_taken (none_taken rate limit) (cut_packets bytes)) (is_cut bytes)) ≡ stream_report rate limit bytes)
