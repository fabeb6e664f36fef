-- The monitor finds no fault in the output of a whole job.
use Rattle.std.proofs.Common.{◌≡◌, ℕ, List, [], None, sym, subst, arith}
use Rattle.pes_packet.specs.AccessUnits.{AccessUnit}
use Rattle.pes_packet.specs.Units.{units_of}
use Rattle.description_parts.specs.Ranges.{IsInRange}
use Rattle.mux_core.specs.declared.room.Room.{Room}
use Rattle.mux_core.specs.Scheduled.{Scheduled}
use Rattle.mux_core.specs.Histories.{History, content_at}
use Rattle.mux_core.specs.Headline.{UnitsKept}
use Rattle.mux_core.specs.WholeJobs.{first_refused, capacity_for, job_history}
use Rattle.mux_core.proofs.Accepted.{units_kept}
use Rattle.laws_run.specs.Monitored.{IsSound, IsInTime, JobSoundLaw, JobInTimeLaw}
use Rattle.laws_run.proofs.Driven.{IsRepresented}
use Rattle.mux_core.proofs.JobWriting.{output_bytes}
use Rattle.laws_run.proofs.JobLemmas.{job_represents}
use Rattle.laws_run.proofs.Soundness.{sound}
use Rattle.laws_run.proofs.InTime.{in_time}

kept_of : (d : Scheduled) (capacity : Room) (h : History) → IsInRange d.description → IsRepresented d capacity h → UnitsKept d h.units
kept_of d capacity h r w =
    subst (λ (x : Scheduled). UnitsKept x h.units) w.schedule
    (units_kept h w.mux (subst (λ (x : Scheduled). IsInRange x.description) (sym w.schedule) r) w.represents)

pub job_kept : (d : Scheduled) (units : List (ℕ × AccessUnit)) → IsInRange d.description → first_refused d (capacity_for units) [] units ≡ None →
    UnitsKept d (λ k. units_of k units)
job_kept d units r none = kept_of d (capacity_for units) (job_history units 0) r (job_represents d units r none)

pub job_sound : JobSoundLaw
job_sound d units n r none few =
    subst IsSound (sym (output_bytes (content_at d (λ k. units_of k units)) 0 n))
    (sound d (λ k. units_of k units) n r (job_kept d units r none) (omega (arith, few)))

pub job_in_time : JobInTimeLaw
job_in_time d units n limit r promised none wide few =
    subst (IsInTime d limit) (sym (output_bytes (content_at d (λ k. units_of k units)) 0 n))
    (in_time d (λ k. units_of k units) n limit r promised (job_kept d units r none) wide (omega (arith, few)))
