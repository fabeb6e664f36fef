-- The explanations that the program writes about a description or a plan.
use Rattle.std.proofs.Common.{◌≡◌, ◌∙◌, ℕ, List, [], Ok, ap, inl, inr, subst}
use Rattle.clap.specs.Words.{Text}
use Rattle.devices.specs.Devices.{Device, IsUntouched, Port, between}
use Rattle.devices.specs.Files.{Files}
use Rattle.devices.specs.Lines.{Reports}
use Rattle.devices.specs.Outcomes.{halt_line, Outcome}
use Rattle.devices.specs.Runs.{Performs}
use Rattle.devices.specs.WholeInput.{ReadsInput}
use Rattle.devices.specs.declared.halt.Halt.TheVariants as halt
use Rattle.devices.proofs.Performances.{no_room, performed, unwritten}
use Rattle.explained_jobs.specs.JobWords.{IsJobExplained}
use Rattle.tsjob_cli.specs.ReadFiles.{HaveBytes, StopsAtOne}
use Rattle.tsjob_cli.specs.Explaining.{ExplainLeads, ExplainsFiles, status_of}
use Rattle.job_run.specs.Outcomes.{IsWritten}

pub outcome_written : (bytes : List ℕ) (o : Outcome) (input output faults : Device) (status : ℕ) → ReadsInput input (Ok bytes) → ExplainLeads bytes o →
    IsWritten o output faults status → Performs ExplainLeads input output faults status
outcome_written bytes o input output faults status r l (inl w) = performed ExplainLeads bytes o input output faults status r l w.0 w.1 w.2 w.3
outcome_written bytes o input output faults status r l (inr w) = unwritten ExplainLeads bytes o input output faults status r l w.0 w.1 w.2 w.3

pub no_memory_left : (bytes : List ℕ) (input output faults : Device) (status : ℕ) →
    ReadsInput input (Ok bytes) → IsUntouched output → Reports faults (halt_line halt.Memory) → status ≡ 3 → Performs ExplainLeads input output faults status
no_memory_left bytes input output faults status r u m s = no_room ExplainLeads bytes input output faults status r u m s

pub leads : (bytes lines : List ℕ) (o : Outcome) (status : ℕ) → IsJobExplained bytes lines → status ≡ status_of lines →
    o ≡ record { output = lines; report = []; status = status } →
    ExplainLeads bytes o
leads bytes lines o status explained status_is is =
    record { lines = lines; explained = explained; is = is ∙ ap (λ (n : ℕ). record { output = lines; report = []; status = n }) status_is }

-- Explaining files

pub files_explained : (files : Files) (names : List Text) (bytes shown : List ℕ) (o : Outcome) (output : Device) (before later after : Port) (status : ℕ) →
    HaveBytes files names bytes → shown ≡ bytes →
    later ≡ before → ExplainLeads shown o → IsWritten o output (between later after) status → ExplainsFiles files names output (between before after) status
files_explained files names bytes shown o output before later after status have are same l w =
    inl (record {
      bytes = bytes;
      have = have;
      outcome = o;
      leads = subst (λ (xs : List ℕ). ExplainLeads xs o) are l;
      written = subst (λ (p : Port). IsWritten o output (between p after) status) same w;
    })

pub files_unread : (files : Files) (names : List Text) (output faults : Device) (status : ℕ) → IsUntouched output → StopsAtOne files names faults status →
    ExplainsFiles files names output faults status
files_unread files names output faults status unwritten why = inr (record { unwritten = unwritten; why = inl why; status_is = why.status_is })

pub files_no_memory : (files : Files) (names : List Text) (output : Device) (before later after : Port) (status : ℕ) → IsUntouched output → later ≡ before →
    Reports (between later after) (halt_line halt.Memory) → status ≡ 3 → ExplainsFiles files names output (between before after) status
files_no_memory files names output before later after status unwritten same reports is =
    inr (record { unwritten = unwritten; why = inr (subst (λ (p : Port). Reports (between p after) (halt_line halt.Memory)) same reports); status_is = is })
