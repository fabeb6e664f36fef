-- The first fault in the job in an input.
use Rattle.std.specs.Prelude.{◌≡◌, ℕ, Bool, List, Option, Some, None, Result, Ok, Err, option_map}
use Rattle.devices.specs.Devices.{Device}
use Rattle.devices.specs.WholeInput.{IsReadAs, ReadsInput}
use Rattle.devices.specs.declared.halt.Halt.{Halt}
use Rattle.checked_jobs.specs.Jobs.{JobFaultView, JobView, job_of}
use Rattle.checked_jobs.specs.JobFaults.{fault_view}
use Rattle.checked_jobs.specs.declared.job_fault.JobFault.{JobFault}

abbrev pub fault_in : Result JobView JobFaultView → Option JobFaultView
fault_in (Ok job) = None
fault_in (Err fault) = Some fault

-- the first fault in the job in the input; or why the input was not read to its end
abbrev pub FindsFault : Bool → Device → Result (Option JobFault) Halt → Type 0
FindsFault switch input (Ok fault) = IsReadAs input (λ bytes. option_map fault_view fault ≡ fault_in (job_of switch bytes))
FindsFault switch input (Err halt) = ReadsInput input (Err halt)
