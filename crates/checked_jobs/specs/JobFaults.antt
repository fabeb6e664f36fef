-- A job as it is read, and the line for the first fault in it.
use Rattle.std.specs.Prelude.{◌≡◌, ◌≤◌, ℕ, Bool, true, false, List, [], ◌∷◌, length, drop, Some, None, Result, Ok, Err, codes, ⊤}
use Rattle.description_keys.specs.Codes.{fault_code, fault_item}
use Rattle.slot_plan.specs.Entries.{code_of}
use Rattle.plan_checker.specs.Refusals.{entry_of}
use Rattle.devices.specs.Lines.{line_text}
use Rattle.checked_jobs.specs.Jobs.{BadDescription, BadLine, BadSecondLine, Fails, HasNoPlan, JobFaultView, JobView, SecondFails}
use Rattle.checked_jobs.specs.declared.jobs.CheckedJob.{CheckedJob}
use Rattle.checked_jobs.specs.declared.jobs.JobPlans.{JobPlans}
use Rattle.checked_jobs.specs.declared.jobs.JobPlans.TheVariants.{One, Two}
use Rattle.checked_jobs.specs.declared.job_fault.JobReadError.{JobReadError}
use Rattle.checked_jobs.specs.declared.job_fault.JobReadError.TheVariants.{Fault, Memory}
use Rattle.checked_jobs.specs.declared.job_fault.JobFault.{JobFault}
use Rattle.checked_jobs.specs.declared.job_fault.JobFault.TheVariants.{NoPlan, Description, PlanLine, Refused, SecondPlanLine, SecondRefused}

-- 1. The faults as they are in memory

abbrev pub fault_view : JobFault → JobFaultView
fault_view NoPlan = HasNoPlan
fault_view (Description f) = BadDescription f
fault_view (PlanLine line) = BadLine line
fault_view (Refused r) = Fails (entry_of r)
fault_view (SecondPlanLine line) = BadSecondLine line
fault_view (SecondRefused r) = SecondFails (entry_of r)

abbrev pub plans_view : JobPlans → List ℕ → JobView
plans_view (One c) rest = record { description = c.description; plan = c.plan; second = None; rest = rest }
plans_view (Two c) rest = record { description = c.first.description; plan = c.first.plan; second = Some c.second; rest = rest }

abbrev pub job_view : CheckedJob → JobView
job_view j = plans_view j.plans j.rest.now

-- a job or its fault is returned, or out of memory
abbrev pub IsJob : Result JobView JobFaultView → Result CheckedJob JobReadError → Type 0
IsJob wanted (Ok j) = Ok (job_view j) ≡ wanted
IsJob wanted (Err (Fault f)) = Err (fault_view f) ≡ wanted
IsJob wanted (Err Memory) = ⊤

-- plans at the front of bytes and the offset after them, or their fault is returned, or out of memory
abbrev pub IsJobAtFront : Result JobView JobFaultView → List ℕ → Result (JobPlans × ℕ) JobReadError → Type 0
IsJobAtFront wanted bytes (Ok r) = (r.1 ≤ length bytes) × (Ok (plans_view r.0 (drop r.1 bytes)) ≡ wanted)
IsJobAtFront wanted bytes (Err (Fault f)) = Err (fault_view f) ≡ wanted
IsJobAtFront wanted bytes (Err Memory) = ⊤

-- 2. The line of a fault

abbrev pub fault_name : JobFaultView → List ℕ
fault_name HasNoPlan = codes "job"
fault_name (BadDescription f) = codes "description"
fault_name (BadLine line) = codes "plan"
fault_name (Fails e) = codes "refused"
fault_name (BadSecondLine line) = codes "second plan"
fault_name (SecondFails e) = codes "second refused"

-- a condition has its number, part, item and two sides
abbrev pub fault_numbers : JobFaultView → List ℕ
fault_numbers HasNoPlan = []
fault_numbers (BadDescription f) = fault_code f ∷ fault_item f ∷ []
fault_numbers (BadLine line) = line ∷ []
fault_numbers (Fails e) = code_of e.condition ∷ e.part ∷ e.item ∷ e.left ∷ e.right ∷ []
fault_numbers (BadSecondLine line) = line ∷ []
fault_numbers (SecondFails e) = code_of e.condition ∷ e.part ∷ e.item ∷ e.left ∷ e.right ∷ []

abbrev pub fault_line : JobFaultView → List ℕ
fault_line fault = line_text (fault_name fault) (fault_numbers fault)

-- more bytes after the job can't change it: they may go on with a text that is cut off
abbrev pub is_final : JobFaultView → Bool
is_final HasNoPlan = false
is_final (BadDescription f) = true
is_final (BadLine line) = false
is_final (Fails e) = true
is_final (BadSecondLine line) = false
is_final (SecondFails e) = true

-- a condition that does not hold
abbrev pub is_refusal : JobFaultView → Bool
is_refusal HasNoPlan = false
is_refusal (BadDescription f) = false
is_refusal (BadLine line) = false
is_refusal (Fails e) = true
is_refusal (BadSecondLine line) = false
is_refusal (SecondFails e) = true
