-- The faults by all rules together are the late PTS alone.
use Rattle.std.proofs.Common.{◌≡◌, ℕ, List, [], ◌∷◌, ◌++◌, map, Some, refl, ap, ◌∙◌}
use Rattle.std.specs.List.{enumerate_from, flat_map}
use Rattle.std.proofs.lemmas.List.Concat.{flat_map-cons}
use Rattle.ts_packet.specs.PidList.{cut_packets}
use Rattle.monitor.specs.declared.fault.Rule.{Rule}
use Rattle.monitor.specs.declared.fault.Rule.TheVariants as rules
use Rattle.monitor.specs.Rules.{fault}
use Rattle.monitor.specs.Begins.{found_on}
use Rattle.monitor.specs.NamedPids.{namings}
use Rattle.monitor.specs.Faults.{packet_pids, on_each, packet_faults, cut_faults, finding_faults, pat_late, map_late, table_late, pcr_late, pts_late, faults_of}
use Rattle.mux_core.specs.Scheduled.{Scheduled}
use Rattle.laws_run.specs.Monitored.{IsSound, IsInTime}
use Rattle.laws_run.specs.Reported.{IsReported, ReportedLaw, AnyStateReportedLaw, JobReportedLaw}
use Rattle.laws_run.proofs.Soundness.{sound, any_state_sound}
use Rattle.laws_run.proofs.InTime.{in_time, any_state_in_time}
use Rattle.laws_run.proofs.MonitoredJobs.{job_sound, job_in_time}

-- If f gives nothing for each element, it gives nothing for the list.
none_of_each : {X Y : Type 0} (f : X → List Y) (xs : List X) → ((x : X) → f x ≡ []) → flat_map f xs ≡ []
none_of_each f [] h = refl
none_of_each {X} {Y} f (x ∷ xs) h = flat_map-cons f x xs ∙ ap (λ (ys : List Y). ys ++ flat_map f xs) (h x) ∙ none_of_each f xs h

pub none_on_each : (rule : Rule) (places : ℕ → List ℕ) (pids : List ℕ) → ((pid : ℕ) → places pid ≡ []) → on_each rule places pids ≡ []
none_on_each rule places pids h = none_of_each (λ pid. map (fault rule (Some pid)) (places pid)) pids (λ pid. ap (map (fault rule (Some pid))) (h pid))

one_left : {X : Type 0} (packets cut clocks findings associations maps network services events time stamps : List X) → packets ≡ [] → cut ≡ [] → clocks ≡ [] →
    findings ≡ [] →
    associations ≡ [] → maps ≡ [] → network ≡ [] → services ≡ [] → events ≡ [] → time ≡ [] →
    ((packets ++ cut) ++ clocks) ++ (findings ++ associations ++ maps ++ network ++ services ++ events ++ time ++ stamps) ≡ stamps
one_left packets cut clocks findings associations maps network services events time stamps p c k f a m n s e t = rw (p, c, k, f, a, m, n, s, e, t) refl

all_reported : (d : Scheduled) (limit : ℕ) (bytes : List ℕ) → IsSound bytes → IsInTime d limit bytes → IsReported d limit bytes
unfolding faults_of
all_reported d limit bytes s t =
    one_left (packet_faults (enumerate_from 0 (cut_packets bytes))) (cut_faults bytes) (on_each rules.Pcr (pcr_late rate limit bytes) (packet_pids bytes))
    (flat_map (λ pid. finding_faults pid (found_on pid bytes)) (packet_pids bytes)) (map (fault rules.Pat (Some 0x00)) (pat_late rate bytes))
    (on_each rules.Pmt (map_late rate bytes) (map (λ naming. naming.0) (namings (found_on 0 bytes))))
    (map (fault rules.Nit (Some 0x10)) (table_late rate 10000 0x10 0x40 bytes)) (map (fault rules.Sdt (Some 0x11)) (table_late rate 2000 0x11 0x42 bytes))
    (map (fault rules.Eit (Some 0x12)) (table_late rate 2000 0x12 0x4E bytes)) (map (fault rules.Tdt (Some 0x14)) (table_late rate 30000 0x14 0x70 bytes))
    (on_each rules.Pts (pts_late rate bytes) (packet_pids bytes))
    s.packets s.whole (none_on_each rules.Pcr (pcr_late rate limit bytes) (packet_pids bytes) t.clocks)
    (none_of_each (λ pid. finding_faults pid (found_on pid bytes)) (packet_pids bytes) s.findings) (ap (map (fault rules.Pat (Some 0x00))) t.associations)
    (none_on_each rules.Pmt (map_late rate bytes) (map (λ naming. naming.0) (namings (found_on 0 bytes))) t.maps)
    (ap (map (fault rules.Nit (Some 0x10))) t.network) (ap (map (fault rules.Sdt (Some 0x11))) t.services) (ap (map (fault rules.Eit (Some 0x12))) t.events)
    (ap (map (fault rules.Tdt (Some 0x14))) t.time)
  where
    rate : ℕ
    rate = d.description.rate

pub reported : ReportedLaw
reported d units n limit r promised kept wide few = all_reported d limit _ (sound d units n r kept few) (in_time d units n limit r promised kept wide few)

pub any_state_reported : AnyStateReportedLaw
any_state_reported h m n limit r promised st wide few =
    all_reported m.schedule limit _ (any_state_sound h m n r st few) (any_state_in_time h m n limit r promised st wide few)

pub job_reported : JobReportedLaw
job_reported d units n limit r promised none wide few =
    all_reported d limit _ (job_sound d units n r none few) (job_in_time d units n limit r promised none wide few)
