-- `check`: the verdict on a job.
use Rattle.std.specs.Prelude.{◌≡◌, ℕ, Bool, List, [], Option, Some, None, if◌then◌else◌, codes}
use Rattle.checked_jobs.specs.Jobs.{JobFaultView, job_of}
use Rattle.checked_jobs.specs.JobFaults.{fault_line, is_refusal}
use Rattle.checked_jobs.specs.FoundFaults.{fault_in}
use Rattle.devices.specs.Lines.{line_text}
use Rattle.devices.specs.Outcomes.{Outcome, printed, reported}

-- accepted, or the first fault: a refusal of the checker is written to the output
unfoldable pub verdict_of : Option JobFaultView → Outcome
verdict_of None = printed (line_text (codes "accepted") []) 0
verdict_of (Some fault) = if is_refusal fault then printed (fault_line fault) 1 else reported (fault_line fault)

unfoldable pub checked : Bool → List ℕ → Outcome
checked switch bytes = verdict_of (fault_in (job_of switch bytes))

abbrev pub Checks : Bool → List ℕ → Outcome → Type 0
Checks switch bytes outcome = outcome ≡ checked switch bytes
