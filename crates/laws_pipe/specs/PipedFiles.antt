-- A job of the streams in files that `tsjob` writes, read and multiplexed by `tsmux mux`.
use Rattle.std.specs.Prelude.{◌≡◌, ◌≤◌, ◌<◌, ℕ, ◌^◌, false, List, [], length, slice_get, Some, None, Ok}
use Rattle.std.specs.List.{AllZip}
use Rattle.clap.specs.Words.{Text}
use Rattle.description_parts.specs.Described.{DescribedStream}
use Rattle.pes_packet.specs.AccessUnits.{AccessUnit}
use Rattle.pid_findings.specs.Views.{FindingView}
use Rattle.es_units.specs.CarriedUnits.{wire_units, apart_wire_units}
use Rattle.job_inputs.specs.JobInput.{JobInputView, job_input}
use Rattle.job_programs.specs.FoundUnits.{KeepDts}
use Rattle.job_programs.specs.JobOptions.{JobOptionsView}
use Rattle.job_inputs.specs.JoinedInputs.{JoinedInputsView, findings_in}
use Rattle.job_inputs.specs.declared.joined_inputs.Origin.{Origin}
use Rattle.job_programs.specs.declared.program_clock.ProgramClock.{ProgramClock}
use Rattle.devices.specs.Devices.{Device, Takes}
use Rattle.devices.specs.Files.{Files}
use Rattle.devices.specs.Lines.{Reports}
use Rattle.job_run.specs.declared.job_arguments.Subcommand.TheVariants.{Whole}
use Rattle.job_run.specs.JobArguments.{JobArgumentsView}
use Rattle.job_run.specs.SeveralInputs.{GivesJobIn, NamedStream, all_findings, all_joined, stream_inputs}
use Rattle.job_run.specs.StreamFiles.{HasRead}
use Rattle.job_run.specs.Streams.{findings_of}
use Rattle.tsjob_cli.specs.FileWords.{file_arguments, file_words}
use Rattle.tsjob_cli.specs.NamedInputs.{ReadsFiles}
use Rattle.checked_jobs.specs.declared.multiplexing.MuxOptions.{MuxOptions}
use Rattle.checked_jobs.specs.MuxJobs.{MuxJobView, greatest_dts, mux_job_of}
use Rattle.checked_jobs.specs.Multiplexing.{IsKept, packets_of}
use Rattle.laws_pipe.specs.PipedJobs.{AreLater, MuxesAll}

-- ---- the job that is read from the output

-- the description, the plan and the units of a job of several streams that is written; there is no second plan
abbrev pub as_joined_job : {w : JobOptionsView} {inputs : List (List FindingView)} {j : JoinedInputsView} {output : List ℕ} → GivesJobIn w inputs j output →
    MuxJobView
as_joined_job job = record { description = job.description; plan = job.plan; second = None; units = job.units }

-- a job takes this input from the findings in a stream of some number of whole packets
pub record TakesInput (w : JobOptionsView) (findings : List FindingView) (m : JobInputView) : Type 0 where
  pub count : ℕ
  pub is : job_input w count findings ≡ Ok m

-- a job of one stream or several is read, whatever words before the names of their files ask for it: a job of the inputs from each stream, joined
abbrev pub JoinedIsRead : Type 0
JoinedIsRead = (words : List Text) (a : JobArgumentsView) (inputs : List (List FindingView)) (ms : List JobInputView) (j : JoinedInputsView) (output : List ℕ) →
    file_arguments words ≡ Some a →
    AllZip (TakesInput a.options) inputs ms → all_joined ms ≡ Ok j → (job : GivesJobIn a.options inputs j output) →
    mux_job_of false output ≡ Ok (as_joined_job job)

-- ---- both programs

-- words ask `tsjob` for a whole job of the streams in files; no device failed and memory sufficed (otherwise the status would be 3), and its writer,
-- which held nothing, has these bytes, not none
pub record WritesJobOfFiles (words : List Text) (a : JobArgumentsView) (files : Files) (output : List ℕ) (input job faults : Device) (status : ℕ) : Type 0 where
  pub asked : file_arguments words ≡ Some a
  pub whole : a.subcommand ≡ Whole
  pub reads : ReadsFiles a files (file_words words) input job faults status
  pub ended : status < 3
  pub empty : job.before.bytes ≡ Some []
  pub output_is : job.after.bytes ≡ Some output
  pub some : 0 < length output

-- the units of a stream in the input where it was found, on its PID there, with distinct DTS in a data stream
abbrev pub wire_units_in : List (List FindingView) → Origin → List AccessUnit
wire_units_in inputs from = apart_wire_units from.pid (findings_in inputs from.input)

-- a stream goes through both programs
pub record FilesGoThrough (a : JobArgumentsView) (o : MuxOptions) (files : Files) (names : List Text) (output : List ℕ)
    (packets faults : Device) (status : ℕ) : Type 0 where
  -- the streams in the files, with the bytes of the files, if these are known
  pub streams : List NamedStream
  pub streams_are : AllZip (HasRead files) names streams
  -- the input that a job takes from each stream, all of them joined, and the job that `tsjob` wrote
  pub inputs : List JobInputView
  pub inputs_are : stream_inputs a.options 0 streams ≡ Ok inputs
  pub joined : JoinedInputsView
  pub joined_is : all_joined inputs ≡ Ok joined
  pub job : GivesJobIn a.options (all_findings a.options streams) joined output
  -- `mux` read that job, refused nothing and reported nothing
  pub read : mux_job_of false output ≡ Ok (as_joined_job job)
  pub good : status ≡ 0
  pub silent : Reports faults []
  -- it wrote its packets, which keep every promise
  pub written : Takes packets (packets_of o (as_joined_job job))
  pub kept : IsKept o (as_joined_job job)
  -- each stream was found in an input; and in the packets a demultiplexer finds the units that it finds on the stream's PID there, if no DTS of the
  -- stream are made, with the marks that are asked for, later by a time of their clock there
  pub origins : length joined.origins ≡ length job.description.streams
  pub time : ℕ → ProgramClock → ℕ
  pub units : a.options.make_dts ≡ false → o.hex ≡ false → greatest_dts job.units ≤ 2 ^ 40 →
      (k : ℕ) (s : DescribedStream) (from : Origin) → slice_get job.description.streams k ≡ Some s → slice_get joined.origins k ≡ Some from →
      KeepDts from.pid (findings_in (all_findings a.options streams) from.input) →
      AreLater (time from.input from.clock) (wire_units_in (all_findings a.options streams) from)
      (wire_units s.pid (findings_of (packets_of o (as_joined_job job))))

abbrev pub TheFilePipe : Type 0
TheFilePipe = (words : List Text) (a : JobArgumentsView) (o : MuxOptions) (files : Files) (output : List ℕ) (input job job_reports : Device) (job_status : ℕ)
    (job_again packets faults : Device) (status : ℕ) →
    WritesJobOfFiles words a files output input job job_reports job_status → MuxesAll o output job_again packets faults status →
    FilesGoThrough a o files (file_words words) output packets faults status
