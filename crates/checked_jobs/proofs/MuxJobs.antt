-- A job and its records, as a job with its units.
use Rattle.std.proofs.Common.{◌≡◌, ℕ, Bool, List, [], ap, Ok, Err}
use Rattle.pes_packet.specs.AccessUnits.{AccessUnit}
use Rattle.unit_records.specs.declared.reading.UnitFileError.{UnitFileError}
use Rattle.checked_jobs.specs.JobFaults.{plans_view}
use Rattle.checked_jobs.specs.Jobs.{JobFaultView, job_of}
use Rattle.checked_jobs.specs.MuxJobs.{InJob, InRecord, mux_job_of, served, with_records, with_units}
use Rattle.checked_jobs.specs.UnitList.{Units, units_in}
use Rattle.checked_jobs.specs.declared.jobs.JobPlans.{JobPlans}
use Rattle.checked_jobs.specs.declared.jobs.JobPlans.TheVariants.{One, Two}

pub job_unread : (switch : Bool) (bytes : List ℕ) (fault : JobFaultView) → Err fault ≡ job_of switch bytes → Err (InJob fault) ≡ mux_job_of switch bytes
unfolding with_records
job_unread switch bytes fault e = ap with_records e

pub units_read : (plans : JobPlans) (rest : List ℕ) (units : List (ℕ × AccessUnit)) → Ok units ≡ units_in rest →
    Ok (served (plans_view plans []) units) ≡ with_records (Ok (plans_view plans rest))
unfolding with_records with_units
units_read (One c) rest units u = ap (λ (us : Units). with_units (plans_view (One c) rest) us) u
units_read (Two c) rest units u = ap (λ (us : Units). with_units (plans_view (Two c) rest) us) u

pub record_unread : (plans : JobPlans) (rest : List ℕ) (index : ℕ) (fault : UnitFileError) → Err (index, fault) ≡ units_in rest →
    Err (InRecord index fault) ≡ with_records (Ok (plans_view plans rest))
unfolding with_records with_units
record_unread (One c) rest index fault u = ap (λ (us : Units). with_units (plans_view (One c) rest) us) u
record_unread (Two c) rest index fault u = ap (λ (us : Units). with_units (plans_view (Two c) rest) us) u
