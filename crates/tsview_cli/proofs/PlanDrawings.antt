-- The outcome of a run on the plan in a job.
use Rattle.std.proofs.Common.{◌≡◌, ℕ, List, ap, inl, inr, refl, subst, Result, Ok, Err}
use Rattle.std.specs.Prelude.{false}
use Rattle.checked_jobs.specs.Jobs.{JobFaultView, JobView, job_of}
use Rattle.devices.specs.Devices.{Device, IsClean, IsUntouched, Takes}
use Rattle.devices.specs.Lines.{Reports, WritesLine}
use Rattle.devices.specs.Outcomes.{halt_line, printed, reported}
use Rattle.devices.specs.Runs.{Performs}
use Rattle.devices.specs.WholeInput.{ReadsInput}
use Rattle.devices.specs.declared.halt.Halt.{Halt}
use Rattle.devices.specs.declared.halt.Halt.TheVariants.{Memory}
use Rattle.devices.proofs.Performances.{no_room, performed, reported_only, reports_none, text_unwritten}
use Rattle.explained_jobs.specs.FaultLines.{IsFaultLine}
use Rattle.tsview_cli.specs.PlanDrawing.{DrawsPlan, IsOutcome, IsPageOf, ReportsLine}

drawn_page : (bytes : List ℕ) (wanted : Result JobView JobFaultView) (text : List ℕ) → IsPageOf wanted text → IsOutcome bytes wanted (printed text 0)
drawn_page bytes (Ok job) text is = ap (λ (t : List ℕ). printed t 0) is
drawn_page bytes (Err fault) text is = absurd is

faulty_job : (bytes : List ℕ) (wanted : Result JobView JobFaultView) (fault : JobFaultView) (line : List ℕ) → Err fault ≡ wanted →
    IsFaultLine bytes fault line → IsOutcome bytes wanted (reported line)
faulty_job bytes wanted fault line is said =
    subst (λ (w : Result JobView JobFaultView). IsOutcome bytes w (reported line)) is (line, said, refl)

pub page_written : (bytes text : List ℕ) (input output faults : Device) (status : ℕ) → ReadsInput input (Ok bytes) → IsPageOf (job_of false bytes) text →
    Takes output text → IsClean output → IsUntouched faults → status ≡ 0 → Performs DrawsPlan input output faults status
page_written bytes text input output faults status r is w c u s =
    performed DrawsPlan bytes (printed text 0) input output faults status r (drawn_page bytes (job_of false bytes) text is) w c (reports_none faults u) s

pub page_unwritten : (bytes text : List ℕ) (input output faults : Device) (status : ℕ) (halt : Halt) → ReadsInput input (Ok bytes) →
    IsPageOf (job_of false bytes) text →
    WritesLine {V = Unit {0}} text output (Err halt) → Reports faults (halt_line halt) → status ≡ 3 → Performs DrawsPlan input output faults status
page_unwritten bytes text input output faults status halt r is w t s =
    text_unwritten (Unit {0}) DrawsPlan bytes text (printed text 0) input output faults status halt r (drawn_page bytes (job_of false bytes) text is) refl w t s

pub fault_reported : (bytes : List ℕ) (fault : JobFaultView) (input output faults : Device) (status : ℕ) → ReadsInput input (Ok bytes) →
    Err fault ≡ job_of false bytes →
    IsUntouched output → ReportsLine bytes fault faults status → Performs DrawsPlan input output faults status
fault_reported bytes fault input output faults status r is u (inl said) =
    reported_only DrawsPlan bytes said.line input output faults status r (faulty_job bytes (job_of false bytes) fault said.line is said.said) u said.reports
    said.status_is
fault_reported bytes fault input output faults status r is u (inr none) = no_room DrawsPlan bytes input output faults status r u none.0 none.1

pub no_memory_left : (bytes : List ℕ) (input output faults : Device) (status : ℕ) → ReadsInput input (Ok bytes) → IsUntouched output →
    Reports faults (halt_line Memory) →
    status ≡ 3 → Performs DrawsPlan input output faults status
no_memory_left bytes input output faults status r u t s = no_room DrawsPlan bytes input output faults status r u t s
