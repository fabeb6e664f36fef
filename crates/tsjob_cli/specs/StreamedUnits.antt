-- The units of the streams of a description, while a stream comes.
use Rattle.std.specs.Prelude.{◌≡◌, ◌⊎◌, ℕ, ◌+◌, ◌==◌, List, [], ◌∷◌, filter, map, None, Result, Ok, Err, codes, ⊤, Bool, if◌then◌else◌, string_bytes}
use Rattle.description_parts.specs.Described.{Described, DescribedProgram, DescribedStream}
use Rattle.description_keys.specs.declared.fault.DescError.TheVariants as refused_by
pub use Rattle.es_feed.specs.EachStream.{fed_stream}
use Rattle.fed_streams.specs.Feeding.{FeedView, FedStreamView, feed_first}
use Rattle.fed_streams.specs.Maps.{MapView}
use Rattle.fed_streams.specs.declared.fed_map.NamedStream.{NamedStream}
use Rattle.es_feed.specs.Passing.{RunsStream}
use Rattle.checked_jobs.specs.Jobs.{BadDescription, described}
use Rattle.description_keys.specs.declared.fault.DescFault.{DescFault}
use Rattle.devices.specs.Devices.{Device, IsUntouched}
use Rattle.devices.specs.Files.{Files, IsUnopened, IsUnread}
use Rattle.devices.specs.Lines.{Reports, line_text}
use Rattle.devices.specs.Outcomes.{Outcome, halted, reported}
use Rattle.devices.specs.Runs.{LacksMemory}
use Rattle.devices.specs.declared.halt.Halt.TheVariants.{Read, Write, Memory}
use Rattle.es_units.specs.Marking.{MarkingView}
use Rattle.es_units.specs.declared.marking.TypedPid.{TypedPid}
use Rattle.job_programs.specs.JobOptions.{JobOptionsView}
use Rattle.tsjob_cli.specs.ReadFiles.{HasBytes}
use Rattle.explained_jobs.specs.FaultLines.{IsFaultLine}
use Rattle.tsjob_cli.specs.declared.streaming.NoDescription.{NoDescription}
use Rattle.tsjob_cli.specs.declared.streaming.NoDescription.TheVariants.{Unopened, Stopped, Refused}

-- 1. The streams of a description

-- when the first unit of all is due, in units of 90 kHz: a unit leaves at most a second before it is due, and streams that begin up to 2 s earlier are
-- then still due late enough
abbrev pub earliest : ℕ
earliest = 270000

-- all of them, the first of these with number k
unfoldable pub streams_from : ℕ → List DescribedStream → List FedStreamView
streams_from k [] = []
streams_from k (s ∷ streams) = fed_stream k s.pid ∷ streams_from (k + 1) streams

-- the streams of a program, by PID and stream_type
abbrev pub named_stream : DescribedStream → NamedStream
named_stream s = record { pid = s.pid; stream_type = s.stream_type }

abbrev pub named_of : ℕ → List DescribedStream → List NamedStream
named_of number streams = map named_stream (filter (λ s. s.program == number) streams)

-- the map of a program, before its first section
abbrev pub map_of : List DescribedStream → DescribedProgram → MapView
map_of streams p = record { program_number = p.number; current = None; named = named_of p.number streams }

abbrev pub maps_of : Described → List MapView
maps_of d = map (map_of d.streams) d.programs

-- the marks that options ask for of them, by the stream_types that the description has
abbrev pub typed_pid : DescribedStream → TypedPid
typed_pid s = record { pid = s.pid; stream_type = s.stream_type }

unfoldable pub access_of : Bool → List DescribedStream → List TypedPid
access_of asked streams = if asked then map typed_pid streams else []

abbrev pub marking_by : JobOptionsView → Described → MarkingView
marking_by w d = record { access = access_of w.mark_access d.streams; aligned = w.aligned }

abbrev pub feed_of : JobOptionsView → Described → FeedView
feed_of w d = feed_first earliest (marking_by w d) (maps_of d) (streams_from 0 d.streams)

abbrev pub pids_of : Described → List ℕ
pids_of d = map (λ s. s.pid) d.streams

-- 2. The description in a file with these bytes

-- the line of its fault
pub record IsRefusedAs (text line : List ℕ) : Type 0 where
  pub fault : DescFault
  pub is : described text ≡ Err (refused_by.Refused fault)
  pub said : IsFaultLine text (BadDescription fault) line

abbrev pub IsDescriptionIn : List ℕ → Result Described NoDescription → Type 0
IsDescriptionIn text (Ok d) = described text ≡ Ok d
IsDescriptionIn text (Err Unopened) = ⊥
IsDescriptionIn text (Err (Stopped halt)) = halt ≡ Memory
IsDescriptionIn text (Err (Refused line)) = IsRefusedAs text (string_bytes line)

-- the description in the file of a name: the file has a text, its own bytes if these are known, and this is the description in it, or it is refused
abbrev pub IsNamedDescription : Files → List ℕ → Result Described NoDescription → Type 0
IsNamedDescription files name (Ok d) = (text : List ℕ) × (HasBytes files name text × (described text ≡ Ok d))
IsNamedDescription files name (Err Unopened) = IsUnopened files name
IsNamedDescription files name (Err (Stopped Read)) = IsUnread files name
IsNamedDescription files name (Err (Stopped Write)) = ⊥
IsNamedDescription files name (Err (Stopped Memory)) = ⊤
IsNamedDescription files name (Err (Refused line)) = (text : List ℕ) × (HasBytes files name text × IsRefusedAs text (string_bytes line))

unfoldable pub none_outcome : NoDescription → Outcome
none_outcome Unopened = record { output = []; report = line_text (codes "open") []; status = 3 }
none_outcome (Stopped halt) = halted halt
none_outcome (Refused line) = reported (string_bytes line)

-- 3. The run

-- the stream is read by options and a description; or memory for the state of its streams is refused
abbrev pub GoesBy : JobOptionsView → Described → Device → Device → Device → ℕ → Type 0
GoesBy w d input output faults status = RunsStream (feed_of w d) (pids_of d) input output faults status ⊎ LacksMemory input output faults status

-- there is a description in the file
pub record GoesByFile (w : JobOptionsView) (files : Files) (name : List ℕ) (input output faults : Device) (status : ℕ) : Type 0 where
  pub description : Described
  pub is : IsNamedDescription files name (Ok description)
  pub goes : GoesBy w description input output faults status

-- there is none: nothing is read and nothing written
pub record HasNoDescription (files : Files) (name : List ℕ) (input output faults : Device) (status : ℕ) : Type 0 where
  pub why : NoDescription
  pub is : IsNamedDescription files name (Err why)
  pub unread : IsUntouched input
  pub unwritten : IsUntouched output
  pub reports : Reports faults (none_outcome why).report
  pub status_is : status ≡ (none_outcome why).status

abbrev pub StreamsUnits : JobOptionsView → Files → List ℕ → Device → Device → Device → ℕ → Type 0
StreamsUnits w files name input output faults status =
    GoesByFile w files name input output faults status ⊎ HasNoDescription files name input output faults status
