-- The packets that a monitor has taken, and the report of all of them.
use Rattle.std.proofs.Common.{◌≡◌, ℕ, ◌^◌, ◌<◌, Bool, List, [], ◌∷◌, ◌++◌, length, Result, Ok, Err, refl, sym, ap, ap₂, arith, ◌∙◌}
use Rattle.std.specs.Prelude.{IfOk, OnOk}
use Rattle.ts_packet.specs.PidList.{cut_packets}
use Rattle.monitor.specs.ReportOf.{stream_report}
use Rattle.monitor.specs.Reports.{ReportView, is_cut, report_of}
use Rattle.monitor.specs.Taken.{HasTaken, ReportsTaken, Takes}
use Rattle.monitor.specs.MonitorStates.{MonitorState, none_taken, packet_taken, packets_taken, stream_ended}
use Rattle.monitor.proofs.StreamReport.{packet_by_packet}

taken_both : (packets more : List (List ℕ)) (s : MonitorState) → packets_taken (packets_taken s packets) more ≡ packets_taken s (packets ++ more)
unfolding packets_taken
taken_both [] more s = refl
taken_both (packet ∷ packets) more s = taken_both packets more (packet_taken s packet)

pub takes_these : (more : List (List ℕ)) (before after : MonitorState) → after ≡ packets_taken before more → Takes more before after
takes_these more before after e = λ rate limit packets t.
    e ∙ ap (λ (s : MonitorState). packets_taken s more) t ∙ taken_both packets more (none_taken rate limit)

pub takes_one : {V E : Type 0} (r : Result V E) (packet : List ℕ) (before after : MonitorState) → OnOk r (after ≡ packet_taken before packet) →
    OnOk r (Takes (packet ∷ []) before after)
unfolding packets_taken
takes_one (Ok v) packet before after e = takes_these (packet ∷ []) before after e
takes_one (Err v) packet before after e = tt

reports_taken : (monitor : MonitorState) (cut : Bool) (report : ReportView) → report ≡ report_of (stream_ended monitor cut) → ReportsTaken monitor cut report
reports_taken monitor cut report e rate limit packets bytes t s n =
    e ∙ ap₂ (λ (m : MonitorState) (c : Bool). report_of (stream_ended m c))
    (t ∙ ap (packets_taken (none_taken rate limit)) (sym s.packets_are)) (sym s.cut_is)
    ∙ (packet_by_packet rate limit).2 bytes n

pub reports_if : {V E : Type 0} (view : V → ReportView) (r : Result V E) (monitor : MonitorState) (cut : Bool) →
    IfOk r (λ report. view report ≡ report_of (stream_ended monitor cut)) → IfOk r (λ report. ReportsTaken monitor cut (view report))
reports_if view (Ok report) monitor cut e = reports_taken monitor cut (view report) e
reports_if view (Err v) monitor cut e = tt

-- If a monitor took the whole packets of these bytes, it reports the report of these bytes as a stream.
pub whole_report : {V E : Type 0} (view : V → ReportView) (rate limit : ℕ) (bytes : List ℕ) (packets : List (List ℕ)) (cut : Bool) (before after : MonitorState)
    (r : Result V E) →
    HasTaken rate limit [] before → Takes packets before after → packets ≡ cut_packets bytes → cut ≡ is_cut bytes →
    IfOk r (λ report. ReportsTaken after cut (view report)) → IfOk r (λ report. length bytes < 2 ^ 64 → view report ≡ stream_report rate limit bytes)
whole_report view rate limit bytes packets cut before after (Ok report) none takes are is said =
    λ room. said rate limit packets bytes (takes rate limit [] none) (record { packets_are = sym are; cut_is = sym is }) (omega arith)
whole_report view rate limit bytes packets cut before after (Err v) none takes are is said = tt

-- Bytes in memory are fewer than 2^64.
pub with_room : (bytes : List ℕ) (report wanted : ReportView) → length bytes < 2 ^ 64 → (length bytes < 2 ^ 64 → report ≡ wanted) → report ≡ wanted
with_room bytes report wanted room said = said room
