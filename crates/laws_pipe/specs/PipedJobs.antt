-- A job that `tsjob` writes, read and multiplexed by `tsmux mux`.
use Rattle.std.specs.Prelude.{◌≡◌, ◌≤◌, ◌<◌, ℕ, ◌/◌, ◌^◌, false, List, [], length, map, slice_get, Some, None, Ok}
use Rattle.clap.specs.Words.{Text}
use Rattle.pes_packet.specs.AccessUnits.{AccessUnit}
use Rattle.description_parts.specs.Described.{DescribedStream}
use Rattle.pid_findings.specs.Views.{FindingView}
use Rattle.es_units.specs.CarriedUnits.{wire_units, apart_wire_units}
use Rattle.job_programs.specs.FoundUnits.{KeepDts}
use Rattle.job_programs.specs.Information.{information_of}
use Rattle.job_inputs.specs.JobInput.{JobInputView, job_input}
use Rattle.job_programs.specs.JobOptions.{JobOptionsView}
use Rattle.job_programs.specs.JobPrograms.{clock_in}
use Rattle.job_programs.specs.declared.program_clock.ProgramClock.{ProgramClock}
use Rattle.laws_job.specs.Laws.{later_by}
use Rattle.devices.specs.Devices.{Device, Takes}
use Rattle.devices.specs.Lines.{Reports}
use Rattle.devices.specs.Runs.{Ends}
use Rattle.job_run.specs.declared.job_arguments.Subcommand.TheVariants.{Whole}
use Rattle.job_run.specs.JobArguments.{JobArgumentsView}
use Rattle.tsjob_cli.specs.Arguments.{arguments_in}
use Rattle.job_run.specs.Outcomes.{GivesJob, Leads}
use Rattle.job_run.specs.Streams.{findings_for, findings_of, in_step}
use Rattle.checked_jobs.specs.declared.multiplexing.MuxOptions.{MuxOptions}
use Rattle.checked_jobs.specs.MuxJobs.{MuxJobView, greatest_dts, mux_job_of}
use Rattle.checked_jobs.specs.Multiplexing.{IsKept, Muxes, packets_of}

-- ---- the job that is read from the output

-- the description, the plan and the units of a job that is written; there is no second plan
abbrev pub as_mux_job : {w : JobOptionsView} {findings : List FindingView} {m : JobInputView} {output : List ℕ} → GivesJob w findings m output → MuxJobView
as_mux_job job = record { description = job.description; plan = job.plan; second = None; units = job.units }

-- a job is read, whatever words ask for it, if its information about the whole transport stream comes from the findings, with a transport_stream_id
abbrev pub WrittenIsRead : Type 0
WrittenIsRead = (words : List Text) (a : JobArgumentsView) (id : ℕ) (findings : List FindingView) (m : JobInputView) (output : List ℕ) →
    arguments_in words ≡ Some a →
    m.information ≡ information_of a.options id findings m.programs → (job : GivesJob a.options findings m output) →
    mux_job_of false output ≡ Ok (as_mux_job job)

-- ---- both programs

-- words ask `tsjob` for a whole job; it ran to its end over the bytes of a stream, and its writer, which held nothing, has these bytes, not none
pub record WritesJob (words : List Text) (a : JobArgumentsView) (bytes output : List ℕ) (stream job faults : Device) (status : ℕ) : Type 0 where
  pub asked : arguments_in words ≡ Some a
  pub whole : a.subcommand ≡ Whole
  pub known : stream.before.bytes ≡ Some bytes
  pub ends : Ends (Leads a) stream job faults status
  pub empty : job.before.bytes ≡ Some []
  pub output_is : job.after.bytes ≡ Some output
  pub some : 0 < length output

-- `mux` is asked for all packets of a job of one plan, and ran to its end over these bytes
pub record MuxesAll (o : MuxOptions) (output : List ℕ) (job packets faults : Device) (status : ℕ) : Type 0 where
  pub all_slots : o.slots ≡ None
  pub one_plan : o.periods ≡ None
  pub known : job.before.bytes ≡ Some output
  pub ends : Ends (Muxes o) job packets faults status

-- units are the same units, all of them in order: their bytes are the same, and their stamps are later by a time, modulo 2^33
abbrev pub AreLater : ℕ → List AccessUnit → List AccessUnit → Type 0
AreLater time before after = after ≡ map (later_by time) before

-- a stream goes through both programs
pub record GoesThrough (a : JobArgumentsView) (o : MuxOptions) (bytes output : List ℕ) (packets faults : Device) (status : ℕ) : Type 0 where
  -- the input that a job takes from the stream, and the job that `tsjob` wrote
  pub input : JobInputView
  pub input_is : job_input a.options (length (in_step bytes) / 188) (findings_for a.options bytes) ≡ Ok input
  pub job : GivesJob a.options (findings_for a.options bytes) input output
  -- `mux` read that job, refused nothing and reported nothing
  pub read : mux_job_of false output ≡ Ok (as_mux_job job)
  pub good : status ≡ 0
  pub silent : Reports faults []
  -- it wrote its packets, which keep every promise
  pub written : Takes packets (packets_of o (as_mux_job job))
  pub kept : IsKept o (as_mux_job job)
  -- in the packets a demultiplexer finds the units of each stream that it finds in the input, if no DTS of the stream are made there, with the marks
  -- that are asked for, and in a data stream with distinct DTS, later by the time of the clock of its program there
  pub time : ProgramClock → ℕ
  pub units : a.options.make_dts ≡ false → o.hex ≡ false → greatest_dts job.units ≤ 2 ^ 40 →
      (k : ℕ) (s : DescribedStream) → slice_get job.description.streams k ≡ Some s → KeepDts s.pid (findings_for a.options bytes) →
      AreLater (time (clock_in input.programs s.program)) (apart_wire_units s.pid (findings_for a.options bytes))
      (wire_units s.pid (findings_of (packets_of o (as_mux_job job))))

abbrev pub ThePipe : Type 0
ThePipe = (words : List Text) (a : JobArgumentsView) (o : MuxOptions) (bytes output : List ℕ) (stream job job_reports : Device) (job_status : ℕ)
    (job_again packets faults : Device) (status : ℕ) →
    WritesJob words a bytes output stream job job_reports job_status → MuxesAll o output job_again packets faults status →
    GoesThrough a o bytes output packets faults status
