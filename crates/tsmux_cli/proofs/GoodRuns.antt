-- A run of `mux` with status 0.
use Rattle.std.proofs.Common.{◌≡◌, ℕ, List, refl, sym, ap, subst, ◌∙◌, arith, inl, inr, Option, Some, None, Result, Ok, Err}
use Rattle.std.specs.Prelude.{is_some}
use Rattle.mux_core.specs.declared.multiplexing.MuxError.{MuxError}
use Rattle.devices.specs.Devices.{Device, Takes}
use Rattle.devices.specs.Outcomes.{Outcome}
use Rattle.devices.specs.WholeInput.{ReadsInput}
use Rattle.checked_jobs.specs.MuxJobs.{MuxFaultView, MuxJobView, mux_job_of}
use Rattle.checked_jobs.specs.Multiplexing.{IsKept, KeepsPromises, KeptUnlessRefused, cause_of, packets_of, unless_refused, with_job}
use Rattle.tsmux_cli.specs.Laws.{GoodRuns, MuxesJob}
use Rattle.checked_jobs.specs.declared.multiplexing.MuxOptions.{MuxOptions}

of_job : (o : MuxOptions) (bytes : List ℕ) (outcome : Outcome) (input packets : Device) (j : MuxJobView) (cause : Option MuxError) →
    ReadsInput input (Ok bytes) → mux_job_of (is_some o.periods) bytes ≡ Ok j → cause_of o j ≡ cause → outcome ≡ unless_refused cause (packets_of o j) →
    KeptUnlessRefused cause (IsKept o j) → outcome.status ≡ 0 → Takes packets outcome.output →
    MuxesJob o input packets
unfolding unless_refused
of_job o bytes outcome input packets j None read is none e kept good written = record {
  bytes = bytes;
  read = read;
  job = j;
  job_is = is;
  taken = none;
  written = subst (λ (x : Outcome). Takes packets x.output) e written;
  kept = kept;
}
of_job o bytes outcome input packets j (Some cause) read is some e kept good written =
    let one : outcome.status ≡ 1 = ap (λ (x : Outcome). x.status) e in absurd (let no : ⊥ = omega (arith, one, good) in no)

of_read : (o : MuxOptions) (bytes : List ℕ) (outcome : Outcome) (input packets : Device) (r : Result MuxJobView MuxFaultView) →
    ReadsInput input (Ok bytes) → mux_job_of (is_some o.periods) bytes ≡ r → outcome ≡ with_job o r → KeepsPromises o r → outcome.status ≡ 0 →
    Takes packets outcome.output →
    MuxesJob o input packets
unfolding with_job
of_read o bytes outcome input packets (Ok j) read is e kept good written =
    of_job o bytes outcome input packets j (cause_of o j) read is refl e kept good written
of_read o bytes outcome input packets (Err fault) read is e kept good written =
    let one : outcome.status ≡ 1 = ap (λ (x : Outcome). x.status) e in absurd (let no : ⊥ = omega (arith, one, good) in no)

pub good_runs : GoodRuns
good_runs o input packets faults status (inl ends) good =
    of_read o ends.leads.bytes ends.outcome input packets (mux_job_of (is_some o.periods) ends.leads.bytes) ends.leads.read refl ends.leads.is.is
    ends.leads.is.kept (sym ends.status_is ∙ good) ends.written
good_runs o input packets faults status (inr (inl unread)) good = absurd (let no : ⊥ = omega (arith, unread.status_is, good) in no)
good_runs o input packets faults status (inr (inr (inl lacks))) good = absurd (let no : ⊥ = omega (arith, lacks.status_is, good) in no)
good_runs o input packets faults status (inr (inr (inr failed))) good = absurd (let no : ⊥ = omega (arith, failed.status_is, good) in no)
