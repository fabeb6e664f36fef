-- The bytes of a whole job give its units back.
use Rattle.std.proofs.Common.{◌≡◌, ℕ, List, [], ◌∷◌, ◌++◌, length, Option, Some, None, refl, sym, subst, append-nil, append_assoc}
use Rattle.pes_packet.specs.AccessUnits.{AccessUnit}
use Rattle.pes_packet.specs.Units.{units_of}
use Rattle.description_parts.specs.Ranges.{IsInRange}
use Rattle.unit_queue.specs.declared.refusal.FeedError.{FeedError}
use Rattle.mux_core.specs.declared.room.Room.{Room}
use Rattle.mux_core.specs.Scheduled.{Scheduled}
use Rattle.mux_core.specs.Histories.{content_at}
use Rattle.mux_core.specs.Events.{fed_history}
use Rattle.mux_core.specs.WholeJobs.{job_history, or_cause, unit_refused, cause_after, first_refused, capacity_for}
use Rattle.mux_core.specs.declared.multiplexing.MuxError.{MuxError}
use Rattle.laws_run.specs.GivenBack.{GivenBack}
use Rattle.laws_run.specs.Clean.{IsClean}
use Rattle.laws_run.specs.Jobs.{JobLaw, JobCleanLaw}
use Rattle.laws_run.proofs.Driven.{IsRepresented, first, fed_represents, given_back_of, clean_of}
use Rattle.mux_core.proofs.JobFeeding.{history_more}
use Rattle.mux_core.proofs.JobWriting.{output_bytes}

-- The units of a job, one by one

-- If two causes together give none, both are none.
neither : (index : ℕ) (cause : Option FeedError) (next : Option MuxError) → or_cause (unit_refused index cause) next ≡ None → (cause ≡ None) × (next ≡ None)
unfolding or_cause unit_refused
neither index None next e = (refl, e)
neither index (Some cause) next e = absurd (cc)

one_more : (d : Scheduled) (capacity : Room) (fed : List (ℕ × AccessUnit)) (entry : ℕ × AccessUnit) → IsInRange d.description →
    IsRepresented d capacity (job_history fed 0) →
    cause_after d capacity fed entry ≡ None → IsRepresented d capacity (job_history (fed ++ (entry ∷ [])) 0)
unfolding fed_history
one_more d capacity fed entry r w none =
    subst (IsRepresented d capacity) (history_more fed entry) (fed_represents d capacity (job_history fed 0) entry.0 entry.1 None r w none)

all_fed : (d : Scheduled) (capacity : Room) (fed left : List (ℕ × AccessUnit)) → IsInRange d.description → IsRepresented d capacity (job_history fed 0) →
    first_refused d capacity fed left ≡ None → IsRepresented d capacity (job_history (fed ++ left) 0)
unfolding first_refused
all_fed d capacity fed [] r w none = subst (λ (us : List (ℕ × AccessUnit)). IsRepresented d capacity (job_history us 0)) (sym (append-nil fed)) w
all_fed d capacity fed (entry ∷ rest) r w none =
    let both = neither (length fed) (cause_after d capacity fed entry) (first_refused d capacity (fed ++ (entry ∷ [])) rest) none in
    subst (λ (us : List (ℕ × AccessUnit)). IsRepresented d capacity (job_history us 0)) (append_assoc fed (entry ∷ []) rest)
    (all_fed d capacity (fed ++ (entry ∷ [])) rest r (one_more d capacity fed entry r w both.0) both.1)

pub job_represents : (d : Scheduled) (units : List (ℕ × AccessUnit)) → IsInRange d.description → first_refused d (capacity_for units) [] units ≡ None →
    IsRepresented d (capacity_for units) (job_history units 0)
job_represents d units r none = all_fed d (capacity_for units) [] units r (first d (capacity_for units) r) none

-- The bytes of a job

pub job_given_back : JobLaw
job_given_back d units n r none few =
    subst (GivenBack d (λ k. units_of k units) n) (sym (output_bytes (content_at d (λ k. units_of k units)) 0 n))
    (given_back_of d (capacity_for units) (job_history units 0) n r (job_represents d units r none) few)

pub job_clean : JobCleanLaw
job_clean d units n r none few =
    subst (IsClean d) (sym (output_bytes (content_at d (λ k. units_of k units)) 0 n))
    (clean_of d (capacity_for units) (job_history units 0) n r (job_represents d units r none) few)
