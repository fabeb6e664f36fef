-- The output of `tsjob units --stream` for a stream while it comes, compared with the output of `tsjob units` for the whole stream.
use Rattle.std.specs.Prelude.{◌≡◌, ◌≤◌, ◌<◌, ℕ, ◌+◌, ◌/◌, true, false, List, [], length, map, slice_get, Some, None, Ok, All}
use Rattle.std.specs.List.{list_any}
use Rattle.clap.specs.Words.{Text}
use Rattle.pes_packet.specs.AccessUnits.{AccessUnit}
use Rattle.pes_packet.specs.Units.{units_of}
use Rattle.description_parts.specs.Described.{Described}
use Rattle.description_parts.specs.Ranges.{IsInRange}
use Rattle.pid_findings.specs.Views.{FindingView}
use Rattle.stamp_repair.specs.DataTimes.{is_unstamped, seen_in, timed}
use Rattle.stamp_repair.specs.References.{references_in}
use Rattle.stamp_repair.specs.LoneStamps.{is_on, lone_in}
use Rattle.stamp_repair.specs.declared.search.LonePes.{LonePes}
use Rattle.es_moments.specs.Merging.{AreMerged}
use Rattle.es_feed.specs.EachStream.{one_by_one, units_fed}
use Rattle.fed_streams.specs.Feeding.{Fed}
use Rattle.es_feed.specs.MovedApart.{after_time}
use Rattle.es_feed.specs.FedLines.{fed_records}
use Rattle.es_feed.specs.Records.{records_of}
use Rattle.es_units.specs.Marking.{MarkingView, is_aligned, type_of}
use Rattle.job_inputs.specs.AskedMarks.{marking_of}
use Rattle.job_inputs.specs.ClockConstants.{clock_of}
use Rattle.job_inputs.specs.JobInput.{JobInputView, job_input}
use Rattle.job_programs.specs.FoundUnits.{KeepDts}
use Rattle.job_programs.specs.JobOptions.{JobOptionsView}
use Rattle.job_programs.specs.JobStreams.{TimedStreamView}
use Rattle.job_programs.specs.declared.program_clock.ProgramClock.{ProgramClock}
use Rattle.devices.specs.Devices.{Device}
use Rattle.devices.specs.Runs.{Ends}
use Rattle.job_run.specs.declared.job_arguments.Subcommand.TheVariants.{Units}
use Rattle.job_run.specs.JobArguments.{JobArgumentsView}
use Rattle.job_run.specs.Outcomes.{Leads}
use Rattle.job_run.specs.Streams.{asked_findings, falling_by, findings_for, findings_of, in_step}
use Rattle.tsjob_cli.specs.Arguments.{arguments_in}
use Rattle.tsjob_cli.specs.StreamedUnits.{GoesBy, earliest, marking_by}

-- ---- both runs

-- words ask `tsjob` for the units of a stream; it ran to its end over these bytes, and its writer, which held nothing, has these records, not none
pub record WritesUnits (words : List Text) (a : JobArgumentsView) (bytes output : List ℕ) (stream records faults : Device) (status : ℕ) : Type 0 where
  pub asked : arguments_in words ≡ Some a
  pub units : a.subcommand ≡ Units
  pub known : stream.before.bytes ≡ Some bytes
  pub ends : Ends (Leads a) stream records faults status
  pub empty : records.before.bytes ≡ Some []
  pub output_is : records.after.bytes ≡ Some output
  pub some : 0 < length output

-- the program read these bytes to their end, by options and a description, and reported nothing; its writer, which held nothing, has these records
pub record StreamsUnits (w : JobOptionsView) (d : Described) (bytes output : List ℕ) (stream records faults : Device) : Type 0 where
  pub known : stream.before.bytes ≡ Some bytes
  pub goes : GoesBy w d stream records faults 0
  pub empty : records.before.bytes ≡ Some []
  pub output_is : records.after.bytes ≡ Some output

-- ---- the outputs of both

-- the findings of a job, before PES packets with stamps that are alone out of order are damaged ones, and these PES packets
abbrev pub timed_findings : JobArgumentsView → List ℕ → List FindingView
timed_findings a bytes = timed (references_in (in_step bytes)) (asked_findings a.options bytes)

abbrev pub lone_found : JobArgumentsView → List ℕ → List LonePes
lone_found a bytes =
    lone_in (falling_by a.options.joined (references_in (in_step bytes)) (asked_findings a.options bytes)) (timed_findings a bytes)

-- for a PID both ask for the same marks: with the same stream_type, if access points are marked at all, and aligned or not
pub record AreMarkedAlike (whole streamed : MarkingView) (pid : ℕ) : Type 0 where
  pub typed : type_of pid whole.access ≡ type_of pid streamed.access
  pub aligned : is_aligned whole.aligned (Some pid) ≡ is_aligned streamed.aligned (Some pid)

-- the description is of the streams of the job, in their order
pub record AreAlike (a : JobArgumentsView) (w : JobOptionsView) (d : Described) (bytes : List ℕ) (input : JobInputView) : Type 0 where
  pub pids : map (λ s. s.pid) d.streams ≡ map (λ t. t.pid) input.streams
  -- the DTS are the stream's own: none are made, neither asked for nor because they do not rise
  pub own : a.options.make_dts ≡ false
  pub keep : All (λ t. KeepDts t.pid (findings_for a.options bytes)) input.streams
  -- no parts are joined
  pub unjoined : a.options.joined ≡ false
  -- no PES packet is cut
  pub uncut : a.options.frames ≡ None
  -- the programs of the streams are on one clock
  pub clock : ProgramClock
  pub one_clock : All (λ t. clock_of input.programs t ≡ clock) input.streams
  -- each unit is one PES packet that nothing interrupts
  pub alone : All (λ t. one_by_one t.pid (findings_for a.options bytes) ≡ true) input.streams
  -- no stream is teletext without stamps
  pub stamped : All (λ t. is_unstamped (seen_in (asked_findings a.options bytes)) t.pid ≡ false) input.streams
  -- no stamps of a stream are alone out of order
  pub ordered : All (λ t. list_any (is_on t.pid) (lone_found a bytes) ≡ false) input.streams
  -- the same marks are asked for
  pub marks : All (λ t. AreMarkedAlike (marking_of a.options (findings_of (in_step bytes))) (marking_by w d) t.pid) input.streams
  -- the first unit of a stream is due no later than three seconds after the first unit of another stream
  pub near : (j k : ℕ) (s t : TimedStreamView) (u v : AccessUnit) → slice_get input.streams j ≡ Some s → slice_get input.streams k ≡ Some t →
      slice_get s.units 0 ≡ Some u → slice_get t.units 0 ≡ Some v → u.dts ≤ v.dts + earliest

-- the units of each stream are the same, in the same order, and their stamps are apart by one time, the same for all streams
pub record AreLaterByOne (count : ℕ) (fed : List Fed) (units : List (ℕ × AccessUnit)) : Type 0 where
  pub here : ℕ
  pub there : ℕ
  pub are : (k : ℕ) → k < count → map (after_time here) (units_fed k fed) ≡ map (after_time there) (units_of k units)

pub record WriteTheSame (a : JobArgumentsView) (w : JobOptionsView) (d : Described) (bytes whole streamed : List ℕ) : Type 0 where
  -- the input that a job takes from the stream, and its units, whose records `tsjob units` wrote
  pub input : JobInputView
  pub input_is : job_input a.options (length (in_step bytes) / 188) (findings_for a.options bytes) ≡ Ok input
  pub units : List (ℕ × AccessUnit)
  pub merged : AreMerged (map (λ t. t.units) input.streams) units
  pub whole_is : whole ≡ records_of units
  -- the fed records that `tsjob units --stream` wrote
  pub fed : List Fed
  pub streamed_is : streamed ≡ fed_records fed
  pub same : AreAlike a w d bytes input → AreLaterByOne (length d.streams) fed units

abbrev pub TheSameUnits : Type 0
TheSameUnits =
    (words : List Text) (a : JobArgumentsView) (w : JobOptionsView) (d : Described) (bytes whole streamed : List ℕ) (one records job_reports : Device)
    (status : ℕ) (other passed silent : Device) → IsInRange d →
    WritesUnits words a bytes whole one records job_reports status → StreamsUnits w d bytes streamed other passed silent →
    WriteTheSame a w d bytes whole streamed

-- both ask for the same marks if neither asks for marks of access points, and both for the same alignment or for none
abbrev pub AskAlike : Type 0
AskAlike = (a : JobArgumentsView) (w : JobOptionsView) (d : Described) (bytes : List ℕ) (pid : ℕ) → a.options.mark_access ≡ false → w.mark_access ≡ false →
    a.options.aligned ≡ w.aligned → AreMarkedAlike (marking_of a.options (findings_of (in_step bytes))) (marking_by w d) pid
