-- If units follow each other often enough, a run has no fault by any rule.
use Rattle.std.proofs.Common.{◌≡◌, ℕ, List, [], sym, subst, ◌∙◌, arith}
use Rattle.pes_packet.specs.Units.{units_of}
use Rattle.slot_contents.specs.Contents.{run_bytes}
use Rattle.monitor.specs.declared.fault.Rule.TheVariants as rules
use Rattle.monitor.specs.Faults.{packet_pids, pts_late, faults_of}
use Rattle.mux_core.specs.Histories.{content_at}
use Rattle.mux_core.proofs.Accepted.{units_kept}
use Rattle.laws_run.specs.PtsSpacing.{PtsSpacingLaw, AnyStatePtsSpacingLaw, JobPtsSpacingLaw}
use Rattle.mux_core.proofs.JobWriting.{output_bytes}
use Rattle.laws_run.proofs.MonitoredJobs.{job_kept}
use Rattle.laws_run.proofs.LeftFaults.{none_on_each, reported}
use Rattle.laws_run.proofs.StampsRecur.{stamps_in_time}

pub steady : PtsSpacingLaw
steady d units n limit r promised kept often wide few =
    let bytes : List ℕ = run_bytes (content_at d units) 0 n in
    reported d units n limit r promised kept wide few
    ∙ none_on_each rules.Pts (pts_late d.description.rate bytes) (packet_pids bytes) (stamps_in_time d units n r promised kept often few)

pub any_state_steady : AnyStatePtsSpacingLaw
any_state_steady h m n limit r promised st often wide few = steady m.schedule h.units n limit r promised (units_kept h m r st) often wide (omega (arith, few))

pub job_steady : JobPtsSpacingLaw
job_steady d units n limit r promised none often wide few =
    subst (λ (bytes : List ℕ). faults_of d.description.rate limit bytes ≡ []) (sym (output_bytes (content_at d (λ k. units_of k units)) 0 n))
    (steady d (λ k. units_of k units) n limit r promised (job_kept d units r none) often wide (omega (arith, few)))
