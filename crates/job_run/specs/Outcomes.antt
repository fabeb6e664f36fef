-- The outcome for a transport stream.
use Rattle.std.specs.Prelude.{◌≡◌, ◌⊎◌, ℕ, ◌/◌, ◌==◌, ◌||◌, not, Bool, true, false, List, [], ◌++◌, length, map, codes, decimal, if◌then◌else◌, Option, Some}
use Rattle.std.specs.Prelude.{None, Result, Ok, Err}
use Rattle.std.specs.List.{list_any}
use Rattle.std.specs.Str.{IsUtf8}
use Rattle.std.specs.Io.KnownBytes.{Consumes}
use Rattle.pes_packet.specs.AccessUnits.{AccessUnit}
use Rattle.pid_findings.specs.Views.{FindingView}
use Rattle.description_parts.specs.Described.{Described}
use Rattle.plan_diagnosis.specs.ReasonLines.{reason_lines}
use Rattle.slot_plan.specs.Conditions.{IsServing}
use Rattle.slot_plan.specs.Planned.{Planned, plan_error}
use Rattle.slot_plan.specs.Text.{plan_text}
use Rattle.es_moments.specs.Merging.{AreMerged}
use Rattle.stream_jobs.specs.Jobs.{AllAgree, AreUnits, IsDescription, IsJob, IsUnplanned}
use Rattle.job_inputs.specs.JobInput.{JobInputView, job_input}
use Rattle.other_tables.specs.OtherTables.{other_tables}
use Rattle.other_tables.specs.TableKinds.{is_loss}
use Rattle.other_tables.specs.declared.tables.OtherTable.{OtherTable}
use Rattle.packet_sync.specs.Fields.{is_loss as is_field_loss}
use Rattle.packet_sync.specs.Slips.{carried}
use Rattle.packet_sync.specs.declared.left_out.FieldLeftOut.{FieldLeftOut}
use Rattle.packet_sync.specs.NoStreams.{searched, no_stream}
use Rattle.packet_sync.specs.declared.file_form.FileForm.{FileForm}
use Rattle.packet_sync.specs.declared.slip.Slip.{Slip}
use Rattle.job_programs.specs.Warnings.{are_damaged}
use Rattle.job_programs.specs.declared.warning.Warning.{Warning}
use Rattle.stream_jobs.specs.WhyNoJob.{IsWhyNoDescription, IsWhyNoJob, IsWhyNoPlan, IsWhyNoReasons}
use Rattle.stream_jobs.specs.Rates.{IsServed, IsTried}
use Rattle.job_programs.specs.JobOptions.{JobOptionsView}
use Rattle.job_programs.specs.declared.refusal.JobError.{JobError}
use Rattle.job_programs.specs.declared.refusal.JobError.TheVariants.{Memory, Refused}
use Rattle.job_programs.specs.declared.refusal.JobRefusal.{JobRefusal}
use Rattle.devices.specs.Devices.{Device, HasFailed, IsClean, Takes}
use Rattle.devices.specs.Outcomes.{halt_line, Outcome, reported}
use Rattle.devices.specs.Lines.{Reports, Stopped}
use Rattle.devices.specs.Runs.{Performs}
use Rattle.devices.specs.declared.halt.Halt.TheVariants.{Write}
use Rattle.job_run.specs.declared.reporting.Reporting.{Reporting}
use Rattle.job_run.specs.declared.job_arguments.Subcommand.{Subcommand}
use Rattle.job_run.specs.declared.job_arguments.Subcommand.TheVariants.{Whole, Describe, Units, Why}
use Rattle.job_run.specs.JobArguments.{JobArgumentsView}
use Rattle.job_run.specs.FieldLines.{field_lines, reported_fields}
use Rattle.es_feed.specs.Records.{records_of, written}
use Rattle.job_run.specs.RefusalLine.{refusal_in, refusal_line}
use Rattle.job_run.specs.SlipLines.{slip_lines, no_stream_line}
use Rattle.job_run.specs.GapLines.{any_gap, gap_lines}
use Rattle.job_run.specs.LeftOutCount.{count_line}
use Rattle.job_run.specs.RecodingLines.{recodings_text}
use Rattle.job_run.specs.Streams.{HasPackets, PacketNotesView, findings_for, in_step, notes_for}
use Rattle.job_run.specs.TableLines.{other_table_lines, reported_tables}
use Rattle.job_run.specs.WarningLines.{reported_warnings, warning_lines}

-- 1. The output

-- a job: the text of its description, in UTF-8, with the programs and streams of the input; the text of a plan that serves it, whose
-- numbers are a plan's; and the records of its units, which are the units of the stream, with their DTS or with DTS made from the PTS
pub record GivesJob (w : JobOptionsView) (findings : List FindingView) (m : JobInputView) (output : List ℕ) : Type 0 where
  pub description : Described
  pub text : List ℕ
  pub plan : Planned
  pub units : List (ℕ × AccessUnit)
  pub job : IsJob w m description text units
  pub found : AreUnits w.make_dts findings description units
  pub agree : AllAgree w.clock description m
  pub serving : IsServing description plan
  pub utf8 : IsUtf8 text
  pub within : plan_error plan.slots plan.certificate ≡ None
  pub is : output ≡ written text (plan_text plan) units

-- the records of the units of all streams by their DTS
pub record GivesUnits (m : JobInputView) (output : List ℕ) : Type 0 where
  pub units : List (ℕ × AccessUnit)
  pub merged : AreMerged (map (λ s. s.units) m.streams) units
  pub is : output ≡ records_of units

-- the line for the first rate, among the rates that are tried, at which a plan is found
unfoldable pub found_line : Option ℕ → List ℕ
found_line (Some rate) = codes "rate " ++ decimal rate ++ codes " has a plan, the first found\n"
found_line None = codes "no rate that was tried has a plan\n"

-- no plan is found, or rates cannot be tried
pub record IsNotFound (w : JobOptionsView) (m : JobInputView) : Type 0 where
  pub refusal : JobRefusal
  pub why : IsWhyNoPlan None w m (Refused refusal)

-- the result of trying rates, whatever rate is asked for
abbrev pub IsFound : JobOptionsView → JobInputView → Option ℕ → Type 0
IsFound w m (Some rate) = IsTried w m rate × IsServed w m rate
IsFound w m None = IsNotFound w m

-- the line for the result comes after the lines for reasons
pub record IsFoundAfter (w : JobOptionsView) (m : JobInputView) (lines output : List ℕ) : Type 0 where
  pub found : Option ℕ
  pub tried : IsFound w m found
  pub is : output ≡ lines ++ found_line found

-- nothing is tried where there are none
abbrev pub IsReasonOutput : Bool → JobOptionsView → JobInputView → List ℕ → List ℕ → Type 0
IsReasonOutput true w m lines output = output ≡ lines
IsReasonOutput false w m lines output = IsFoundAfter w m lines output

-- a line for each reason why no plan serves the description
pub record GivesReasons (w : JobOptionsView) (m : JobInputView) (output : List ℕ) : Type 0 where
  pub description : Described
  pub unplanned : IsUnplanned w m description
  pub reports : IsReasonOutput (length (reason_lines description) == 0) w m (reason_lines description) output

-- the output of a subcommand
abbrev pub Gives : Subcommand → JobOptionsView → List FindingView → JobInputView → List ℕ → Type 0
Gives Whole w findings m output = GivesJob w findings m output
Gives Describe w findings m output = IsDescription w m output
Gives Units w findings m output = GivesUnits m output
Gives Why w findings m output = GivesReasons w m output

-- why a subcommand has no output; for units, only out of memory
abbrev pub Withholds : Subcommand → JobOptionsView → JobInputView → JobError → Type 0
Withholds Whole w m error = IsWhyNoJob w m error
Withholds Describe w m error = IsWhyNoDescription w.rate w m error
Withholds Units w m error = error ≡ Memory
Withholds Why w m error = IsWhyNoReasons w.rate w m error

-- 2. The outcome for a stream

-- whether something is lost: there are slips, fields or tables that a viewer misses, or a warning reports a loss
abbrev pub is_lossy : List Slip → List FieldLeftOut → List OtherTable → List Warning → Bool
is_lossy slips fields tables warnings =
    not (length slips == 0) || list_any (λ f. is_field_loss f.field) fields || list_any (λ t. is_loss t.kind) tables || are_damaged warnings

-- a line for each slip, for each field of a PID that is not written again, for each PID with tables that are not carried, and
-- for each reported warning, in a stream with streams whose clocks go back
abbrev pub loss_lines : List ℕ → List Slip → List FieldLeftOut → List OtherTable → List Warning → List ℕ
loss_lines falling slips fields tables warnings = slip_lines slips ++ field_lines fields ++ other_table_lines tables ++ warning_lines falling warnings

-- no lines where only refusals are reported
abbrev pub unless_quiet : Bool → List ℕ → List ℕ
unless_quiet quiet lines = if quiet then [] else lines

-- the lines about a stream from which a job takes this input; the last one counts the elementary streams that are left out
abbrev pub reported_lines : Reporting → PacketNotesView → List FindingView → JobInputView → List ℕ
reported_lines r notes findings m =
    unless_quiet r.quiet
    (((loss_lines notes.falling notes.slips (reported_fields r.all m notes.fields) (reported_tables r.all m (other_tables findings))
    (reported_warnings r m.warnings)
    ++ recodings_text r.all notes.recodings) ++ gap_lines m notes.gaps)
    ++ count_line m)

-- whether something is lost, or a clock of the job's programs has a gap
abbrev pub reports_loss : Reporting → PacketNotesView → List FindingView → JobInputView → Bool
reports_loss r notes findings m =
    any_gap m notes.gaps
    || is_lossy notes.slips (reported_fields r.all m notes.fields) (reported_tables r.all m (other_tables findings)) (reported_warnings r m.warnings)

-- the status 1: of reasons where there is one, else where something is lost
abbrev pub status_of : Subcommand → List ℕ → Bool → ℕ
status_of Whole output less = if less then 1 else 0
status_of Describe output less = if less then 1 else 0
status_of Units output less = if less then 1 else 0
status_of Why output less = if length output == 0 then 0 else 1

-- the output, the lines for what is left out, and the status
pub record IsGiven (arguments : JobArgumentsView) (notes : PacketNotesView) (findings : List FindingView) (m : JobInputView) (o : Outcome) : Type 0 where
  pub gives : Gives arguments.subcommand arguments.options findings m o.output
  pub report_is : o.report ≡ reported_lines arguments.reporting notes findings m
  pub status_is : o.status ≡ status_of arguments.subcommand o.output (reports_loss arguments.reporting notes findings m)

-- nothing is written but the line of the refusal, and the status is 1
pub record IsRefused (arguments : JobArgumentsView) (m : JobInputView) (o : Outcome) : Type 0 where
  pub refusal : JobRefusal
  pub holds : Withholds arguments.subcommand arguments.options m (Refused refusal)
  pub is : o ≡ reported (refusal_line refusal)

-- for the job input of a stream, or for a stream that is refused
abbrev pub InputLeads : JobArgumentsView → PacketNotesView → List FindingView → Result JobInputView JobRefusal → Outcome → Type 0
InputLeads arguments notes findings (Ok m) o = IsGiven arguments notes findings m o ⊎ IsRefused arguments m o
InputLeads arguments notes findings (Err refusal) o = o ≡ reported (refusal_in notes.falling refusal)

-- for the findings in a stream of `count` whole packets
abbrev pub FindingsLead : JobArgumentsView → PacketNotesView → ℕ → List FindingView → Outcome → Type 0
FindingsLead arguments notes count findings o = InputLeads arguments notes findings (job_input arguments.options count findings) o

-- for the packets of a stream that are in no slip; bytes that are no transport stream are refused
abbrev pub BytesLead : JobArgumentsView → List ℕ → Option FileForm → Outcome → Type 0
BytesLead arguments bytes (Some form) o = o ≡ reported (no_stream_line form)
BytesLead arguments bytes None o =
    FindingsLead arguments (notes_for arguments.options bytes) (length (in_step bytes) / 188) (findings_for arguments.options bytes) o

abbrev pub Leads : JobArgumentsView → List ℕ → Outcome → Type 0
Leads arguments bytes o = BytesLead arguments bytes (no_stream bytes) o

-- the line of the refusal, unless the error is out of memory
abbrev pub ReportsWhy : JobError → Outcome → Type 0
ReportsWhy Memory o = ⊥
ReportsWhy (Refused refusal) o = o ≡ reported (refusal_line refusal)

-- the same for a stream with streams whose clocks go back
abbrev pub ReportsRefusal : List ℕ → JobError → Outcome → Type 0
ReportsRefusal falling Memory o = ⊥
ReportsRefusal falling (Refused refusal) o = o ≡ reported (refusal_in falling refusal)

-- 3. How it is written

-- whole, and then the report; or the writer failed, and that is reported
abbrev pub IsWritten : Outcome → Device → Device → ℕ → Type 0
IsWritten o output faults status =
    (Takes output o.output × IsClean output × Reports faults o.report × (status ≡ o.status))
    ⊎ (Stopped o.output output × HasFailed output × Reports faults (halt_line Write) × (status ≡ 3))

-- 4. A run over an input

-- the whole input leads to the outcome
abbrev pub LeadsWhole : JobArgumentsView → List ℕ → Outcome → Type 0
LeadsWhole arguments bytes o = Leads arguments bytes o × HasPackets bytes

-- its first 4 MiB lead to the outcome, whatever bytes follow, and no more is read
pub record EndsEarly (arguments : JobArgumentsView) (input output faults : Device) (status : ℕ) : Type 0 where
  pub front : List ℕ
  pub size_is : length front ≡ searched
  pub read : Consumes input.before.bytes input.after.bytes front
  pub clean : IsClean input
  pub outcome : Outcome
  pub leads : (more : List ℕ) → Leads arguments (front ++ more) outcome
  pub written : IsWritten outcome output faults status

abbrev pub PerformsJob : JobArgumentsView → Device → Device → Device → ℕ → Type 0
PerformsJob arguments input output faults status =
    Performs (LeadsWhole arguments) input output faults status ⊎ EndsEarly arguments input output faults status
