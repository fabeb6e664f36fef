-- `tsjob` and then `tsmux`, joined by a pipe.
use Rattle.std.proofs.Common.{◌≡◌, ◌<◌, ℕ, ◌+◌, ◌-◌, ◌/◌, ◌^◌, Bool, false, List, [], ◌++◌, length, Option, Some, None, Result, Ok, Err, refl, sym, ap, ◌∙◌}
use Rattle.std.proofs.Common.{subst, arith, is_some, inl, inr, All}
use Rattle.std.specs.Io.KnownBytes.{Appends}
use Rattle.clap.specs.Words.{Text}
use Rattle.pid_findings.specs.Views.{FindingView}
use Rattle.packet_sync.specs.NoStreams.{no_stream}
use Rattle.packet_sync.specs.declared.file_form.FileForm.{FileForm}
use Rattle.es_units.proofs.KeptDeclarations.{units_kept}
use Rattle.job_inputs.specs.JobInput.{JobInputView, job_input}
use Rattle.job_programs.specs.Information.{information_of}
use Rattle.job_programs.specs.JobOptions.{JobOptionsView}
use Rattle.job_programs.specs.JobPrograms.{clock_in}
use Rattle.stream_jobs.specs.Jobs.{AreUnits}
use Rattle.job_inputs.proofs.ClockConstants.{constants_of}
use Rattle.job_inputs.proofs.MovedInputs.{moved_of}
use Rattle.job_programs.specs.declared.refusal.JobRefusal.{JobRefusal}
use Rattle.unit_records.proofs.RecordBytes.{records_are_read}
use Rattle.laws_job.specs.Laws.{AcceptedLaw, FoundAgainLaw, schedule_for}
use Rattle.laws_job.proofs.AcceptedUnits.{all_kept}
use Rattle.devices.specs.Devices.{Device, Takes}
use Rattle.devices.specs.Lines.{Reports}
use Rattle.devices.specs.Outcomes.{Outcome, printed, reported}
use Rattle.devices.specs.Runs.{Ends}
use Rattle.devices.proofs.Performances.{known_lead}
use Rattle.job_run.specs.declared.job_arguments.Subcommand.{Subcommand}
use Rattle.job_run.specs.JobArguments.{JobArgumentsView}
use Rattle.tsjob_cli.specs.Arguments.{arguments_in}
use Rattle.job_run.specs.Outcomes.{BytesLead, Gives, GivesJob, InputLeads, Leads}
use Rattle.job_run.specs.Streams.{findings_for, in_step, notes_for}
use Rattle.checked_jobs.specs.declared.multiplexing.MuxOptions.{MuxOptions}
use Rattle.checked_jobs.specs.MuxJobs.{MuxJobView, mux_job_of}
use Rattle.checked_jobs.specs.Multiplexing.{IsKept, KeepsPromises, KeptUnlessRefused, Muxes, cause_of, multiplexed, packets_of, unless_refused, with_job}
use Rattle.laws_pipe.specs.PipedJobs.{GoesThrough, MuxesAll, ThePipe, WrittenIsRead, as_mux_job}
use Rattle.laws_pipe.proofs.DescriptionLines.{PlainInformation, description_passes, information_plain}
use Rattle.laws_pipe.proofs.PlainLines.{Passes}
use Rattle.laws_pipe.proofs.PlainNames.{PlainOptions, options_plain}
use Rattle.laws_pipe.proofs.ReadJobs.{job_again, text_in_range}
use Rattle.laws_pipe.proofs.TakenJobs.{none_refused}
use Rattle.laws_pipe.proofs.UnitsAgain.{moved_units, units_again}
use Rattle.laws_job.proofs.PrivateData.{units_sixteen}
use Rattle.laws_pipe.proofs.WrittenRecords.{Fits, records_read, units_fit}

-- 1. The reader accepts the text that the writer writes

pub plain_of : (w : JobOptionsView) (id : ℕ) (findings : List FindingView) (m : JobInputView) → PlainOptions w →
    m.information ≡ information_of w id findings m.programs →
    PlainInformation m.information
plain_of w id findings m plain is = subst PlainInformation (sym is) (information_plain w id findings m.programs plain)

passes : (w : JobOptionsView) (findings : List FindingView) (m : JobInputView) (output : List ℕ) → PlainInformation m.information →
    (job : GivesJob w findings m output) → Passes job.text
passes w findings m output plain job =
    subst Passes (sym job.job.described.text_is) (description_passes w m job.job.described.rate plain)

fits : (w : JobOptionsView) (findings : List FindingView) (m : JobInputView) (output : List ℕ) (job : GivesJob w findings m output) → All Fits job.units
fits w findings m output job =
    let ranges = text_in_range job.description job.text job.job.read in
    units_fit (schedule_for job.description job.plan) job.units ranges
    (all_kept units_kept w.make_dts (schedule_for job.description job.plan) findings job.units ranges job.found)
    (units_sixteen w.make_dts findings job.description job.units job.found) job.found.numbered

read_with : (w : JobOptionsView) (findings : List FindingView) (m : JobInputView) (output : List ℕ) → PlainInformation m.information →
    (job : GivesJob w findings m output) →
    mux_job_of false output ≡ Ok (as_mux_job job)
read_with w findings m output plain job =
    ap (mux_job_of false) job.is
    ∙ job_again job.description job.plan job.text job.units (passes w findings m output plain job) job.utf8 job.job.read job.serving job.within
    (records_read records_are_read job.units (fits w findings m output job))

pub written_is_read : WrittenIsRead
written_is_read words a id findings m output asked is job =
    read_with a.options findings m output (plain_of a.options id findings m (options_plain words a asked) is) job

-- 2. The output of `tsjob`

-- A writer that was empty contains exactly the bytes that it took.
pub taken : (before after : Option (List ℕ)) (bytes output : List ℕ) → before ≡ Some [] → after ≡ Some output → Appends before after bytes → bytes ≡ output
taken None after bytes output b a e = absurd cc
taken (Some xs) None bytes output b a e = absurd cc
taken (Some xs) (Some ys) bytes output b a e =
    let none : xs ≡ [] = cc in
    let all : ys ≡ output = cc in
    sym (ap (λ (front : List ℕ). front ++ bytes) none) ∙ sym e ∙ all

-- The stream led to a job.
pub record GivenOf (a : JobArgumentsView) (bytes output : List ℕ) : Type 0 where
  pub input : JobInputView
  pub input_is : job_input a.options (length (in_step bytes) / 188) (findings_for a.options bytes) ≡ Ok input
  pub gives : Gives a.subcommand a.options (findings_for a.options bytes) input output

pub none_written : (o : Outcome) (line : List ℕ) → o ≡ reported line → 0 < length o.output → ⊥
none_written o line e some = let none : length o.output ≡ 0 = ap (λ (x : Outcome). length x.output) e in absurd (omega (arith, none, some))

given_by : (a : JobArgumentsView) (bytes : List ℕ) (o : Outcome) (r : Result JobInputView JobRefusal) →
    job_input a.options (length (in_step bytes) / 188) (findings_for a.options bytes) ≡ r →
    InputLeads a (notes_for a.options bytes) (findings_for a.options bytes) r o → 0 < length o.output →
    GivenOf a bytes o.output
given_by a bytes o (Err refusal) e leads some = absurd (none_written o _ leads some)
given_by a bytes o (Ok m) e (inl given) some = record { input = m; input_is = e; gives = given.gives }
given_by a bytes o (Ok m) e (inr refused) some = absurd (none_written o _ refused.is some)

given_of : (a : JobArgumentsView) (bytes : List ℕ) (o : Outcome) (p : Option FileForm) → BytesLead a bytes p o → 0 < length o.output →
    GivenOf a bytes o.output
given_of a bytes o (Some form) leads some = absurd (none_written o _ leads some)
given_of a bytes o None leads some = given_by a bytes o (job_input a.options (length (in_step bytes) / 188) (findings_for a.options bytes)) refl leads some

pub given_by_run : (a : JobArgumentsView) (bytes output : List ℕ) (stream job job_reports : Device) (status : ℕ) → stream.before.bytes ≡ Some bytes →
    Ends (Leads a) stream job job_reports status →
    job.before.bytes ≡ Some [] → job.after.bytes ≡ Some output → 0 < length output → GivenOf a bytes output
given_by_run a bytes output stream job job_reports status known ends empty output_is some =
    let same : ends.outcome.output ≡ output = taken job.before.bytes job.after.bytes ends.outcome.output output empty output_is ends.written in
    let leads = known_lead (Leads a) bytes ends.outcome stream ends.leads known in
    subst (GivenOf a bytes) same (given_of a bytes ends.outcome (no_stream bytes) leads (subst (λ (xs : List ℕ). 0 < length xs) (sym same) some))

-- 3. The effect of `mux` on the output

-- The outcome of a job, if `mux` refuses nothing
good : (o : MuxOptions) (output : List ℕ) (j : MuxJobView) → o.periods ≡ None → mux_job_of false output ≡ Ok j → cause_of o j ≡ None →
    multiplexed o output ≡ printed (packets_of o j) 0
unfolding with_job unless_refused
good o output j one read none =
    ap (λ (p : Option ℕ). with_job o (mux_job_of (is_some p) output)) one ∙ ap (with_job o) read ∙ ap (λ c. unless_refused c (packets_of o j)) none

kept_of : (o : MuxOptions) (output : List ℕ) (j : MuxJobView) → o.periods ≡ None → mux_job_of false output ≡ Ok j → cause_of o j ≡ None →
    KeepsPromises o (mux_job_of (is_some o.periods) output) → IsKept o j
kept_of o output j one read none kept =
    subst (λ c. KeptUnlessRefused c (IsKept o j)) none
    (subst (KeepsPromises o) (ap (λ (p : Option ℕ). mux_job_of (is_some p) output) one ∙ read) kept)

-- The output is a job, and `mux` refuses nothing in it.
pub record TakenOf (o : MuxOptions) (output : List ℕ) (j : MuxJobView) (packets faults : Device) (status : ℕ) : Type 0 where
  pub good : status ≡ 0
  pub silent : Reports faults []
  pub written : Takes packets (packets_of o j)
  pub kept : IsKept o j

pub muxed : (o : MuxOptions) (output : List ℕ) (j : MuxJobView) (job packets faults : Device) (status : ℕ) → MuxesAll o output job packets faults status →
    mux_job_of false output ≡ Ok j →
    cause_of o j ≡ None → TakenOf o output j packets faults status
muxed o output j job packets faults status m read none =
    let leads = known_lead (Muxes o) output m.ends.outcome job m.ends.leads m.known in
    let is : m.ends.outcome ≡ printed (packets_of o j) 0 = leads.is ∙ good o output j m.one_plan read none in
    record {
      good = m.ends.status_is ∙ ap (λ (x : Outcome). x.status) is;
      silent = subst (λ (x : Outcome). Reports faults x.report) is m.ends.reports;
      written = subst (λ (x : Outcome). Takes packets x.output) is m.ends.written;
      kept = kept_of o output j m.one_plan read none leads.kept;
    }

-- 4. Both programs

through : AcceptedLaw → FoundAgainLaw → (words : List Text) (a : JobArgumentsView) (o : MuxOptions) (bytes output : List ℕ) (job_again packets faults : Device)
    (status : ℕ) →
    arguments_in words ≡ Some a → MuxesAll o output job_again packets faults status → (input : JobInputView) →
    job_input a.options (length (in_step bytes) / 188) (findings_for a.options bytes) ≡ Ok input →
    GivesJob a.options (findings_for a.options bytes) input output →
    GoesThrough a o bytes output packets faults status
through accepted again words a o bytes output job_again packets faults status asked m input input_is job =
    let ranges = text_in_range job.description job.text job.job.read in
    let from = moved_of a.options (length (in_step bytes) / 188) (findings_for a.options bytes) input input_is in
    let read = written_is_read words a from.id (findings_for a.options bytes) input output asked from.information_is job in
    let none = none_refused accepted a.options.make_dts (findings_for a.options bytes) o (as_mux_job job) refl m.all_slots ranges job.found in
    let done = muxed o output (as_mux_job job) job_again packets faults status m read none in
    let constants = constants_of a.options (length (in_step bytes) / 188) (findings_for a.options bytes) input input_is in
    record {
      input = input;
      input_is = input_is;
      job = job;
      read = read;
      good = done.good;
      silent = done.silent;
      written = done.written;
      kept = done.kept;
      time = λ clock. job.description.base0 + 2 ^ 33 - constants.constant clock;
      units = λ own bytes_out short k s is keep.
          units_again again (findings_for a.options bytes) o (as_mux_job job) (constants.constant (clock_in input.programs s.program)) refl m.all_slots
          bytes_out ranges job.serving
          (subst (λ (made : Bool). AreUnits made (findings_for a.options bytes) job.description job.units) own job.found) short k s is
          (moved_units a.options (findings_for a.options bytes) job.description input job.units constants own job.agree job.job.merged k s is keep);
    }

pub the_pipe : AcceptedLaw → FoundAgainLaw → ThePipe
the_pipe accepted again words a o bytes output stream job job_reports job_status job_again packets faults status w m =
    let given = given_by_run a bytes output stream job job_reports job_status w.known w.ends w.empty w.output_is w.some in
    through accepted again words a o bytes output job_again packets faults status w.asked m given.input given.input_is
    (subst (λ (word : Subcommand). Gives word a.options (findings_for a.options bytes) given.input output) w.whole given.gives)
