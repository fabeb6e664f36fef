-- Transport streams in files by their names, for one job.
use Rattle.std.specs.Prelude.{◌≡◌, ◌⊎◌, ℕ, ◌+◌, ◌||◌, true, Bool, List, [], ◌∷◌, ◌++◌, codes, length, map, is_ok, slice_get, take, Some, Result, Ok, Err}
use Rattle.std.specs.List.{AllZip, list_any}
use Rattle.pid_findings.specs.Views.{FindingView}
use Rattle.devices.specs.Devices.{Device, IsUntouched}
use Rattle.devices.specs.Files.{Files, IsOpened, IsUnopened, IsUnread}
use Rattle.devices.specs.Lines.{Reports}
use Rattle.devices.specs.Outcomes.{Outcome, halt_line, reported}
use Rattle.devices.specs.WholeInput.{IsWhole}
use Rattle.devices.specs.declared.halt.Halt.TheVariants.{Memory}
use Rattle.job_inputs.specs.JobInput.{JobInputView, job_input, AreStreams}
use Rattle.job_inputs.specs.JoinedInputs.{AreStreamsIn, JoinedInputsView}
use Rattle.job_programs.specs.declared.refusal.JobRefusal.{JobRefusal}
use Rattle.job_run.specs.InputLines.{are_lost, input_line, name_of, note_lines}
use Rattle.job_run.specs.RefusalLine.{refusal_in, refusal_line}
use Rattle.job_run.specs.JobArguments.{JobArgumentsView}
use Rattle.job_run.specs.Outcomes.{IsWritten, reports_loss, status_of, reported_lines, unless_quiet}
use Rattle.job_run.specs.SeveralInputs.{GivesIn, IsRefusedIn, NamedStream, StreamsLead, all_joined, is_stream_lossy, stream_input, stream_inputs, stream_lines}
use Rattle.job_run.specs.SeveralInputs.{under}
use Rattle.job_run.specs.Streams.{PacketNotesView, findings_for}

-- 1. One stream

-- what a job takes from a stream, the lines about it, and whether something of it is lost
pub record TakenView : Type 0 where
  pub input : JobInputView
  pub lines : List ℕ
  pub less : Bool

-- the same for the findings in a stream of `count` whole packets
pub record IsTakenOf (a : JobArgumentsView) (notes : PacketNotesView) (count : ℕ) (findings : List FindingView) (t : TakenView) : Type 0 where
  pub input_is : job_input a.options count findings ≡ Ok t.input
  pub streams : AreStreams a.options.make_dts findings t.input
  pub lines_are : t.lines ≡ reported_lines a.reporting notes findings t.input
  pub less_is : t.less ≡ reports_loss a.reporting notes findings t.input

-- or they are refused
pub record IsRefusalOf (a : JobArgumentsView) (notes : PacketNotesView) (count : ℕ) (findings : List FindingView) (o : Outcome) : Type 0 where
  pub refusal : JobRefusal
  pub refused : job_input a.options count findings ≡ Err refusal
  pub is : o ≡ reported (refusal_in notes.falling refusal)

abbrev pub IsInputOf : JobArgumentsView → PacketNotesView → ℕ → List FindingView → Result TakenView Outcome → Type 0
IsInputOf a notes count findings (Ok t) = IsTakenOf a notes count findings t
IsInputOf a notes count findings (Err o) = IsRefusalOf a notes count findings o

-- the same for the bytes of a stream
pub record IsTaken (a : JobArgumentsView) (bytes : List ℕ) (t : TakenView) : Type 0 where
  pub input_is : stream_input a.options bytes ≡ Ok t.input
  pub streams : AreStreams a.options.make_dts (findings_for a.options bytes) t.input
  pub lines_are : t.lines ≡ stream_lines a t.input bytes
  pub less_is : t.less ≡ is_stream_lossy a t.input bytes

-- or the line that says why a job takes nothing of it
pub record IsUntaken (a : JobArgumentsView) (bytes : List ℕ) (o : Outcome) : Type 0 where
  pub line : List ℕ
  pub refused : stream_input a.options bytes ≡ Err line
  pub is : o ≡ reported line

abbrev pub IsInput : JobArgumentsView → List ℕ → Result TakenView Outcome → Type 0
IsInput a bytes (Ok t) = IsTaken a bytes t
IsInput a bytes (Err o) = IsUntaken a bytes o

-- 2. The file of a name

-- it can't be opened, or not be read to its end
abbrev pub stopped_by : List ℕ → Outcome
stopped_by why = record { output = []; report = why; status = 3 }

abbrev pub open_line : List ℕ
open_line = codes "can't be opened\n"

abbrev pub read_line : List ℕ
read_line = codes "can't be read to its end\n"

abbrev pub IsStop : Files → List ℕ → Outcome → Type 0
IsStop files name o = ((o ≡ stopped_by open_line) × IsUnopened files name) ⊎ ((o ≡ stopped_by read_line) × IsUnread files name)

-- it was opened and read; its bytes are these, where they are known
pub record IsInputIn (a : JobArgumentsView) (files : Files) (name : List ℕ) (r : Result TakenView Outcome) : Type 0 where
  pub opened : IsOpened files name
  pub bytes : List ℕ
  pub whole : IsWhole (files.contents name) bytes
  pub is : IsInput a bytes r

abbrev pub IsNamedInput : JobArgumentsView → Files → List ℕ → Result TakenView Outcome → Type 0
IsNamedInput a files name (Ok t) = IsInputIn a files name (Ok t)
IsNamedInput a files name (Err o) = IsStop files name o ⊎ IsInputIn a files name (Err o)

-- 3. All files

-- the file of a name was opened, and a stream was read of it
abbrev pub HasRead : Files → List ℕ → NamedStream → Type 0
HasRead files name s = (s.name ≡ name) × IsWhole (files.contents name) s.bytes × IsOpened files name

abbrev pub IsTakenFrom : JobArgumentsView → NamedStream → TakenView → Type 0
IsTakenFrom a s t = IsTaken a s.bytes t

-- streams were read of the files of these names, and this is what a job takes of each
pub record AreTaken (a : JobArgumentsView) (files : Files) (names : List (List ℕ)) (taken : List TakenView) : Type 0 where
  pub streams : List NamedStream
  pub read : AllZip (HasRead files) names streams
  pub are : AllZip (IsTakenFrom a) streams taken

-- an outcome under the number and the name of its input
abbrev pub headed_outcome : ℕ → List ℕ → Outcome → Outcome
headed_outcome number name o = record { output = o.output; report = input_line number name ++ o.report; status = o.status }

-- the first file from which a job takes nothing ends the run
pub record EndsAt (a : JobArgumentsView) (files : Files) (names : List (List ℕ)) (o : Outcome) : Type 0 where
  pub number : ℕ
  pub name : List ℕ
  pub at : slice_get names number ≡ Some name
  pub taken : List TakenView
  pub before : AreTaken a files (take number names) taken
  pub alone : Outcome
  pub is : IsNamedInput a files name (Err alone)
  pub outcome_is : o ≡ headed_outcome number name alone

abbrev pub AreNamedInputs : JobArgumentsView → Files → List (List ℕ) → Result (List TakenView) Outcome → Type 0
AreNamedInputs a files names (Ok taken) = AreTaken a files names taken
AreNamedInputs a files names (Err o) = EndsAt a files names o

-- the lines about what is taken, numbered from `number` on
unfoldable pub taken_lines : List (List ℕ) → ℕ → List TakenView → List ℕ
taken_lines names number [] = []
taken_lines names number (t ∷ ts) = under number (name_of names number) t.lines ++ taken_lines names (number + 1) ts

-- the joined inputs of streams lead to the outcome, whatever was found in the streams
pub record IsGivenOf (a : JobArgumentsView) (names : List (List ℕ)) (taken : List TakenView) (j : JoinedInputsView) (o : Outcome) : Type 0 where
  pub gives : (inputs : List (List FindingView)) → AreStreamsIn a.options.make_dts inputs j → GivesIn a.subcommand a.options inputs j o.output
  pub report_is : o.report ≡ taken_lines names 0 taken ++ unless_quiet a.reporting.quiet (note_lines names j.notes)
  pub status_is : o.status ≡ status_of a.subcommand o.output (list_any (λ t. t.less) taken || are_lost j.notes)

abbrev pub JoinedLeads : JobArgumentsView → List (List ℕ) → List TakenView → Result JoinedInputsView JobRefusal → Outcome → Type 0
JoinedLeads a names taken (Ok j) o = IsGivenOf a names taken j o ⊎ IsRefusedIn a j o
JoinedLeads a names taken (Err refusal) o = o ≡ reported (refusal_line refusal)

abbrev pub TakenLead : JobArgumentsView → List (List ℕ) → List TakenView → Outcome → Type 0
TakenLead a names taken o = JoinedLeads a names taken (all_joined (map (λ t. t.input) taken)) o

-- 4. The run

-- a file can't be opened or read to its end, and a job takes something of each one before it
pub record IsStopped (a : JobArgumentsView) (files : Files) (names : List (List ℕ)) (o : Outcome) : Type 0 where
  pub number : ℕ
  pub name : List ℕ
  pub at : slice_get names number ≡ Some name
  pub streams : List NamedStream
  pub read : AllZip (HasRead files) (take number names) streams
  pub taken : is_ok (stream_inputs a.options 0 streams) ≡ true
  pub alone : Outcome
  pub is : IsStop files name alone
  pub outcome_is : o ≡ headed_outcome number name alone

-- the streams lead to the outcome; if a job takes something from each of them, they are the streams of all files
pub record IsLedTo (a : JobArgumentsView) (files : Files) (names : List (List ℕ)) (o : Outcome) : Type 0 where
  pub streams : List NamedStream
  pub read : AllZip (HasRead files) (take (length streams) names) streams
  pub all : is_ok (stream_inputs a.options 0 streams) ≡ true → length streams ≡ length names
  pub leads : StreamsLead a streams o

abbrev pub FilesLead : JobArgumentsView → Files → List (List ℕ) → Outcome → Type 0
FilesLead a files names o = IsStopped a files names o ⊎ IsLedTo a files names o

-- the outcome is written
pub record EndsFiles (a : JobArgumentsView) (files : Files) (names : List (List ℕ)) (output faults : Device) (status : ℕ) : Type 0 where
  pub outcome : Outcome
  pub leads : FilesLead a files names outcome
  pub written : IsWritten outcome output faults status

-- there was no memory: nothing is written
pub record LacksRoom (output faults : Device) (status : ℕ) : Type 0 where
  pub unwritten : IsUntouched output
  pub reports : Reports faults (halt_line Memory)
  pub status_is : status ≡ 3

abbrev pub PerformsFiles : JobArgumentsView → Files → List (List ℕ) → Device → Device → ℕ → Type 0
PerformsFiles a files names output faults status = EndsFiles a files names output faults status ⊎ LacksRoom output faults status
