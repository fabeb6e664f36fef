-- A job that is taken as its bytes come.
use Rattle.std.specs.Prelude.{◌≡◌, ℕ, Bool, List, [], ◌++◌, Result, Ok, Err, ⊤}
use Rattle.checked_jobs.specs.JobFaults.{fault_view, plans_view}
use Rattle.checked_jobs.specs.Jobs.{JobFaultView, JobView, job_of}
use Rattle.checked_jobs.specs.declared.job_fault.JobReadError.{JobReadError}
use Rattle.checked_jobs.specs.declared.job_fault.JobReadError.TheVariants.{Fault as Faulty, Memory}
use Rattle.checked_jobs.specs.declared.job_taker.FrontState.{FrontState}
use Rattle.checked_jobs.specs.declared.job_taker.FrontState.TheVariants.{Open, Plans, Fault}
use Rattle.checked_jobs.specs.declared.jobs.JobPlans.{JobPlans}

-- these plans are read, whatever bytes follow, and the bytes after them are taken
pub record ReadsPlans (Taken : List ℕ → Type 0) (switch : Bool) (bytes : List ℕ) (plans : JobPlans) : Type 0 where
  pub after : List ℕ
  pub plans_are : (more : List ℕ) → Ok (plans_view plans (after ++ more)) ≡ job_of switch (bytes ++ more)
  pub taken : Taken after

-- the state of reading after these bytes of a job
abbrev pub IsStateAfter : (List ℕ → Type 0) → Bool → List ℕ → List ℕ → FrontState → Type 0
IsStateAfter Taken switch bytes text Open = (text ≡ bytes) × Taken []
IsStateAfter Taken switch bytes text (Plans plans) = ReadsPlans Taken switch bytes plans
IsStateAfter Taken switch bytes text (Fault fault) = (more : List ℕ) → Err (fault_view fault) ≡ job_of switch (bytes ++ more)

-- these bytes of a job have come
pub record TakesJob (Taken : List ℕ → Type 0) (switch : Bool) (bytes : List ℕ) (has_switch : Bool) (text : List ℕ) (state : FrontState) : Type 0 where
  pub same : has_switch ≡ switch
  pub state_is : IsStateAfter Taken switch bytes text state

-- the plans of the job, and a taker of all bytes after them
pub record ConcludesPlans (Taken : List ℕ → Type 0) (wanted : Result JobView JobFaultView) (plans : JobPlans) : Type 0 where
  pub after : List ℕ
  pub plans_are : Ok (plans_view plans after) ≡ wanted
  pub taken : Taken after

abbrev pub Concludes : {T : Type 0} → (T → List ℕ → Type 0) → Result JobView JobFaultView → Result (JobPlans × T) JobReadError → Type 0
Concludes Taken wanted (Ok r) = ConcludesPlans (Taken r.1) wanted r.0
Concludes Taken wanted (Err (Faulty f)) = Err (fault_view f) ≡ wanted
Concludes Taken wanted (Err Memory) = ⊤
