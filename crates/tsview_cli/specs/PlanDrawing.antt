-- A page of the plan in a job.
use Rattle.std.specs.Prelude.{◌≡◌, ◌⊎◌, ℕ, Bool, false, List, [], ◌∷◌, Result, Ok, Err, String, codes, string_bytes, ⊤}
use Rattle.std.specs.Str.{bytes_eq}
use Rattle.clap.specs.Words.{Text}
use Rattle.checked_jobs.specs.Jobs.{JobFaultView, JobView, job_of}
use Rattle.checked_jobs.specs.JobFaults.{fault_view}
use Rattle.checked_jobs.specs.declared.job_fault.JobReadError.{JobReadError}
use Rattle.checked_jobs.specs.declared.job_fault.JobReadError.TheVariants.{Fault, Memory}
use Rattle.devices.specs.Devices.{Device}
use Rattle.devices.specs.Lines.{Reports}
use Rattle.devices.specs.Outcomes.{Outcome, halt_line, printed, reported}
use Rattle.devices.specs.declared.halt.Halt.TheVariants.{Memory as NoMemory}
use Rattle.explained_jobs.specs.FaultLines.{IsFaultLine}
use Rattle.plan_page.specs.PageText.{page_text}

-- the word alone
unfoldable pub is_plan : List Text → Bool
is_plan (word ∷ []) = bytes_eq word (codes "--plan")
is_plan _ = false

-- the page of a job's first plan
abbrev pub job_page : JobView → List ℕ
job_page job = page_text job.description job.plan

abbrev pub IsPageOf : Result JobView JobFaultView → List ℕ → Type 0
IsPageOf (Ok job) text = text ≡ job_page job
IsPageOf (Err fault) text = ⊥

-- a page of it is returned, or its fault, or out of memory
abbrev pub IsPlanPage : {A : Type 0} → Result JobView JobFaultView → Result (String A) JobReadError → Type 0
IsPlanPage wanted (Ok text) = IsPageOf wanted (string_bytes text)
IsPlanPage wanted (Err (Fault f)) = Err (fault_view f) ≡ wanted
IsPlanPage wanted (Err Memory) = ⊤

-- the line of a fault was reported, with the status 1; or there was no memory for it
pub record ReportsFault (bytes : List ℕ) (fault : JobFaultView) (faults : Device) (status : ℕ) : Type 0 where
  pub line : List ℕ
  pub said : IsFaultLine bytes fault line
  pub reports : Reports faults line
  pub status_is : status ≡ 1

abbrev pub ReportsLine : List ℕ → JobFaultView → Device → ℕ → Type 0
ReportsLine bytes fault faults status = ReportsFault bytes fault faults status ⊎ (Reports faults (halt_line NoMemory) × (status ≡ 3))

-- the page, and the status 0; or the line of the first fault, and the status 1
abbrev pub IsOutcome : List ℕ → Result JobView JobFaultView → Outcome → Type 0
IsOutcome bytes (Ok job) outcome = outcome ≡ printed (job_page job) 0
IsOutcome bytes (Err fault) outcome = (line : List ℕ) × IsFaultLine bytes fault line × (outcome ≡ reported line)

abbrev pub DrawsPlan : List ℕ → Outcome → Type 0
DrawsPlan bytes outcome = IsOutcome bytes (job_of false bytes) outcome
