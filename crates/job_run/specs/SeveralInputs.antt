-- The outcome for several transport streams as one job, each in a file of its own.
use Rattle.std.specs.Prelude.{◌≡◌, ◌⊎◌, ℕ, ◌+◌, ◌/◌, ◌==◌, ◌||◌, Bool, false, List, [], ◌∷◌, ◌++◌, length, map, if◌then◌else◌, Option, Some, None, Result, Ok}
use Rattle.std.specs.Prelude.{Err}
use Rattle.std.specs.Str.{IsUtf8}
use Rattle.pes_packet.specs.AccessUnits.{AccessUnit}
use Rattle.pid_findings.specs.Views.{FindingView}
use Rattle.description_parts.specs.Described.{Described}
use Rattle.slot_plan.specs.Conditions.{IsServing}
use Rattle.slot_plan.specs.Planned.{Planned, plan_error}
use Rattle.slot_plan.specs.Text.{plan_text}
use Rattle.packet_sync.specs.NoStreams.{no_stream}
use Rattle.packet_sync.specs.declared.file_form.FileForm.{FileForm}
use Rattle.stream_jobs.specs.Jobs.{AllAgree, IsDescription, IsJob}
use Rattle.job_inputs.specs.JobInput.{JobInputView, job_input}
use Rattle.job_programs.specs.JobOptions.{JobOptionsView}
use Rattle.job_inputs.specs.JoinedInputs.{AreUnitsIn, JoinedInputsView, joined_inputs}
use Rattle.job_programs.specs.declared.refusal.JobError.TheVariants.{Refused}
use Rattle.job_programs.specs.declared.refusal.JobRefusal.{JobRefusal}
use Rattle.job_programs.specs.declared.refusal.JobRefusal.TheVariants.{NoStream}
use Rattle.devices.specs.Outcomes.{Outcome, reported}
use Rattle.job_run.specs.InputLines.{are_lost, input_line, note_lines}
use Rattle.job_run.specs.RefusalLine.{refusal_in, refusal_line}
use Rattle.job_run.specs.SlipLines.{no_stream_line}
use Rattle.es_feed.specs.Records.{written}
use Rattle.job_run.specs.declared.job_arguments.Subcommand.{Subcommand}
use Rattle.job_run.specs.declared.job_arguments.Subcommand.TheVariants.{Whole, Describe, Units, Why}
use Rattle.job_run.specs.JobArguments.{JobArgumentsView}
use Rattle.job_run.specs.Outcomes.{GivesReasons, GivesUnits, Withholds, reports_loss, status_of, reported_lines, unless_quiet}
use Rattle.job_run.specs.Streams.{findings_for, in_step, notes_for}

-- a stream: the name of its file, and its bytes
pub record NamedStream : Type 0 where
  pub name : List ℕ
  pub bytes : List ℕ

abbrev pub names_of : List NamedStream → List (List ℕ)
names_of streams = map (λ s. s.name) streams

-- the findings in each stream, with the marks that are asked for
abbrev pub all_findings : JobOptionsView → List NamedStream → List (List FindingView)
all_findings options streams = map (λ s. findings_for options s.bytes) streams

-- 1. What a job takes from each stream, by the same options; or the line that says why it takes nothing

unfoldable pub input_or_line : List ℕ → Result JobInputView JobRefusal → Result JobInputView (List ℕ)
input_or_line falling (Ok m) = Ok m
input_or_line falling (Err refusal) = Err (refusal_in falling refusal)

unfoldable pub packets_input : JobOptionsView → List ℕ → Option FileForm → Result JobInputView (List ℕ)
packets_input options bytes (Some form) = Err (no_stream_line form)
packets_input options bytes None =
    input_or_line (notes_for options bytes).falling (job_input options (length (in_step bytes) / 188) (findings_for options bytes))

abbrev pub stream_input : JobOptionsView → List ℕ → Result JobInputView (List ℕ)
stream_input options bytes = packets_input options bytes (no_stream bytes)

-- one input before the others; a line comes below the number and the name of its input
unfoldable pub with_first : ℕ → List ℕ → Result JobInputView (List ℕ) → Result (List JobInputView) (List ℕ) → Result (List JobInputView) (List ℕ)
with_first number name (Err line) rest = Err (input_line number name ++ line)
with_first number name (Ok m) (Err lines) = Err lines
with_first number name (Ok m) (Ok ms) = Ok (m ∷ ms)

-- the inputs of all streams, numbered from `number` on; or the first line that says why a stream gives none
unfoldable pub stream_inputs : JobOptionsView → ℕ → List NamedStream → Result (List JobInputView) (List ℕ)
stream_inputs options number [] = Ok []
stream_inputs options number (s ∷ streams) = with_first number s.name (stream_input options s.bytes) (stream_inputs options (number + 1) streams)

-- 2. The report

-- the lines about one stream, from which a job takes this input
abbrev pub stream_lines : JobArgumentsView → JobInputView → List ℕ → List ℕ
stream_lines a m bytes = reported_lines a.reporting (notes_for a.options bytes) (findings_for a.options bytes) m

-- under the number and the name of its input, if there is anything
unfoldable pub under : ℕ → List ℕ → List ℕ → List ℕ
under number name lines = if length lines == 0 then [] else input_line number name ++ lines

-- the lines about all streams in order, numbered from `number` on
unfoldable pub streams_lines : JobArgumentsView → ℕ → List NamedStream → List JobInputView → List ℕ
streams_lines a number (s ∷ streams) (m ∷ ms) = under number s.name (stream_lines a m s.bytes) ++ streams_lines a (number + 1) streams ms
streams_lines a number streams ms = []

-- these lines, and then the notes on the inputs after the first
abbrev pub all_lines : JobArgumentsView → List NamedStream → List JobInputView → JoinedInputsView → List ℕ
all_lines a streams ms j = streams_lines a 0 streams ms ++ unless_quiet a.reporting.quiet (note_lines (names_of streams) j.notes)

-- something of a stream is lost
abbrev pub is_stream_lossy : JobArgumentsView → JobInputView → List ℕ → Bool
is_stream_lossy a m bytes = reports_loss a.reporting (notes_for a.options bytes) (findings_for a.options bytes) m

unfoldable pub are_streams_less : JobArgumentsView → List NamedStream → List JobInputView → Bool
are_streams_less a (s ∷ streams) (m ∷ ms) = is_stream_lossy a m s.bytes || are_streams_less a streams ms
are_streams_less a streams ms = false

abbrev pub is_any_less : JobArgumentsView → List NamedStream → List JobInputView → JoinedInputsView → Bool
is_any_less a streams ms j = are_streams_less a streams ms || are_lost j.notes

-- 3. The output

-- a job as from one stream; its units are the units found in the streams
pub record GivesJobIn (w : JobOptionsView) (inputs : List (List FindingView)) (j : JoinedInputsView) (output : List ℕ) : Type 0 where
  pub description : Described
  pub text : List ℕ
  pub plan : Planned
  pub units : List (ℕ × AccessUnit)
  pub job : IsJob w j.input description text units
  pub found : AreUnitsIn w.make_dts inputs j.origins description units
  pub agree : AllAgree w.clock description j.input
  pub serving : IsServing description plan
  pub utf8 : IsUtf8 text
  pub within : plan_error plan.slots plan.certificate ≡ None
  pub is : output ≡ written text (plan_text plan) units

abbrev pub GivesIn : Subcommand → JobOptionsView → List (List FindingView) → JoinedInputsView → List ℕ → Type 0
GivesIn Whole w inputs j output = GivesJobIn w inputs j output
GivesIn Describe w inputs j output = IsDescription w j.input output
GivesIn Units w inputs j output = GivesUnits j.input output
GivesIn Why w inputs j output = GivesReasons w j.input output

-- 4. The outcome

pub record IsGivenIn (arguments : JobArgumentsView) (streams : List NamedStream) (ms : List JobInputView) (j : JoinedInputsView) (o : Outcome) : Type 0 where
  pub gives : GivesIn arguments.subcommand arguments.options (all_findings arguments.options streams) j o.output
  pub report_is : o.report ≡ all_lines arguments streams ms j
  pub status_is : o.status ≡ status_of arguments.subcommand o.output (is_any_less arguments streams ms j)

-- nothing is written but the line of the refusal, and the status is 1
pub record IsRefusedIn (arguments : JobArgumentsView) (j : JoinedInputsView) (o : Outcome) : Type 0 where
  pub refusal : JobRefusal
  pub holds : Withholds arguments.subcommand arguments.options j.input (Refused refusal)
  pub is : o ≡ reported (refusal_line refusal)

-- the outcome for the joined inputs of the streams
abbrev pub JoinedLead : JobArgumentsView → List NamedStream → List JobInputView → Result JoinedInputsView JobRefusal → Outcome → Type 0
JoinedLead arguments streams ms (Ok j) o = IsGivenIn arguments streams ms j o ⊎ IsRefusedIn arguments j o
JoinedLead arguments streams ms (Err refusal) o = o ≡ reported (refusal_line refusal)

-- for what a job takes of each of the streams
unfoldable pub all_joined : List JobInputView → Result JoinedInputsView JobRefusal
all_joined [] = Err NoStream
all_joined (first ∷ more) = joined_inputs first more

abbrev pub InputsLead : JobArgumentsView → List NamedStream → Result (List JobInputView) (List ℕ) → Outcome → Type 0
InputsLead arguments streams (Err lines) o = o ≡ reported lines
InputsLead arguments streams (Ok ms) o = JoinedLead arguments streams ms (all_joined ms) o

abbrev pub StreamsLead : JobArgumentsView → List NamedStream → Outcome → Type 0
StreamsLead arguments streams o = InputsLead arguments streams (stream_inputs arguments.options 0 streams) o
