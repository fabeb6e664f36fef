-- The word `next`: whether a description may take the place of the texts of a job on air, a front for it with a plan in which what stays keeps its slots,
-- and the record that puts either there.
use Rattle.std.specs.Prelude.{◌≡◌, ◌⊎◌, ◌==◌, ◌^◌, ◌&&◌, not, ℕ, Bool, true, false, nat_lt, List, [], ◌∷◌, if◌then◌else◌, codes, Option, Some, None, option_and_then}
use Rattle.std.specs.Prelude.{option_map, is_some, Ok, Err}
use Rattle.std.specs.List.{list_any}
use Rattle.std.specs.Str.{bytes_eq}
use Rattle.clap.specs.Words.{Text}
use Rattle.description_values.specs.Moments.{moment_of}
use Rattle.devices.specs.Devices.{Device, HasFailed, IsClean, IsUntouched, Port, Takes, between}
use Rattle.devices.specs.Files.{Files}
use Rattle.devices.specs.Lines.{Reports, Stopped}
use Rattle.devices.specs.Outcomes.{Outcome, halt_line, printed}
use Rattle.devices.specs.Saving.{ReportsText, SavesNamed, unwritten_text}
use Rattle.devices.specs.declared.files.FileFault.{FileFault}
use Rattle.devices.specs.declared.halt.Halt.TheVariants.{Memory, Write}
use Rattle.explained_jobs.specs.NextFronts.{IsNext}
use Rattle.explained_jobs.specs.TextAnswers.{text_answer}
use Rattle.explained_jobs.specs.TextRecords.{IsTextsRecord}
use Rattle.job_run.specs.Outcomes.{IsWritten}
use Rattle.word_faults.specs.Scaled.{scaled_in}
use Rattle.word_faults.specs.SortedWords.{value_given}
use Rattle.word_faults.specs.declared.scaled.Scale.TheVariants.{Ticks}
use Rattle.tsjob_cli.specs.Options.{usage_text}
use Rattle.tsjob_cli.specs.ReadFiles.{HaveBytes, StopsAtOne}
use Rattle.tsjob_cli.specs.declared.next_asked.NextAsked.{NextAsked}
use Rattle.tsjob_cli.specs.declared.next_asked.RecordAsked.{RecordAsked}

-- 1. What is asked for

-- the moment from which the texts are in force, in seconds since 1970; the wait of the run, in units of 90 kHz; the name of the file; and whether the
-- record is that of a front
pub record Asked : Type 0 where
  pub at : ℕ
  pub wait : ℕ
  pub to : Text
  pub is_front : Bool

abbrev pub asked_view : RecordAsked → Asked
asked_view r = record { at = r.at; wait = r.wait; to = r.to.now; is_front = r.is_front }

-- a moment in 32 bits
unfoldable pub if_short : Option ℕ → Option ℕ
if_short None = None
if_short (Some at) = if nat_lt at (2 ^ 32) then Some at else None

abbrev pub moment_in : Text → Option ℕ
moment_in text = if_short (moment_of text)

-- 2 s if it is not given, as of `tsair`
unfoldable pub wait_in : Option Text → Option ℕ
wait_in None = Some 180000
wait_in (Some text) = scaled_in Ticks 0 8100000 text

abbrev pub record_to : Bool → Text → Option Text → Text → Option Asked
record_to is_front at wait to =
    option_and_then (λ a. option_and_then (λ w. Some (record { at = a; wait = w; to = to; is_front = is_front })) (wait_in wait)) (moment_in at)

abbrev pub if_record : Option Asked → Option (Option Asked)
if_record None = None
if_record (Some asked) = Some (Some asked)

-- the moment and the name of the file are given, or neither, and then no wait; otherwise the words are a usage error
unfoldable pub record_by : Bool → Option Text → Option Text → Option Text → Option (Option Asked)
record_by is_front (Some at) wait (Some to) = if_record (record_to is_front at wait to)
record_by is_front None None None = Some None
record_by is_front at wait to = None

abbrev pub record_asked : Bool → List Text → Option (Option Asked)
record_asked is_front options =
    record_by is_front (value_given (codes "--at") options) (value_given (codes "--wait") options) (value_given (codes "--to") options)

-- whether a front is asked for; the name of the file that it is written to, none if that is standard output; and the record
pub record Next : Type 0 where
  pub plan : Bool
  pub name : Option Text
  pub asked : Option Asked

abbrev pub next_view : NextAsked → Next
next_view n = record { plan = n.plan; name = option_map (λ s. s.now) n.name; asked = option_map asked_view n.record }

abbrev pub is_plan_word : Text → Bool
is_plan_word word = bytes_eq word (codes "--plan")

abbrev pub plan_asked : List Text → Bool
plan_asked options = list_any is_plan_word options

-- the name of a file is given, and no front is asked for
abbrev pub names_nothing : Bool → Option Text → Bool
names_nothing plan name = not plan && is_some name

unfoldable pub next_by : Bool → Option Text → Option (Option Asked) → Option Next
next_by plan name None = None
next_by plan name (Some asked) = if names_nothing plan name then None else Some (record { plan = plan; name = name; asked = asked })

abbrev pub next_asked : List Text → Option Text → Option Next
next_asked options name = next_by (plan_asked options) name (record_asked (plan_asked options) options)

-- 2. The answer

-- the status 0 if the line says yes
abbrev pub status_of : List ℕ → ℕ
status_of line = if bytes_eq line (codes "texts: yes\n") then 0 else 1

-- the answer to the bytes of the two files
abbrev pub answer_to : List ℕ → List ℕ → Outcome
answer_to job texts = printed (text_answer job texts) (status_of (text_answer job texts))

-- 3. The record

-- the record is written to a new file that has the name now, or why not
pub record WritesRecord (creates : Option (Option FileFault)) (keeps : Option Bool) (asked : Asked) (job texts : List ℕ) (faults : Device) (status : ℕ)
    : Type 0 where
  pub bytes : List ℕ
  pub is : IsTextsRecord asked.is_front job texts asked.at asked.wait bytes
  pub saves : SavesNamed creates keeps asked.to bytes 0 faults status

-- the texts are longer than a record may be, or there is no memory
pub record LacksRecord (to : Text) (faults : Device) (status : ℕ) : Type 0 where
  pub reports_text : ReportsText to unwritten_text faults
  pub status_is : status ≡ 3

abbrev pub SavesRecord : (Text → Option (Option FileFault)) → (Text → Option Bool) → Asked → List ℕ → List ℕ → Device → ℕ → Type 0
SavesRecord creates keeps asked job texts faults status =
    WritesRecord (creates asked.to) (keeps asked.to) asked job texts faults status ⊎ LacksRecord asked.to faults status

-- no record is asked for, or the answer is that the texts may not be put on air: no file is written
abbrev pub KeepsNone : ℕ → Device → ℕ → Type 0
KeepsNone answered faults status = (status ≡ answered) × IsUntouched faults

abbrev pub KeepsRecord : (Text → Option (Option FileFault)) → (Text → Option Bool) → Option Asked → List ℕ → List ℕ → ℕ → Device → ℕ → Type 0
KeepsRecord creates keeps None job texts answered faults status = KeepsNone answered faults status
KeepsRecord creates keeps (Some asked) job texts answered faults status =
    (((answered == 0) ≡ false) × KeepsNone answered faults status) ⊎ (((answered == 0) ≡ true) × SavesRecord creates keeps asked job texts faults status)

-- the answer is written, and then the record
pub record WritesAnswer (creates : Text → Option (Option FileFault)) (keeps : Text → Option Bool) (asked : Option Asked) (job texts : List ℕ)
    (output faults : Device) (status : ℕ) : Type 0 where
  pub answered : ℕ
  pub so_far : Port
  pub written : IsWritten (answer_to job texts) output (between faults.before so_far) answered
  pub kept : KeepsRecord creates keeps asked job texts answered (between so_far faults.after) status

-- memory runs out: nothing is written
pub record LacksAnswer (output faults : Device) (status : ℕ) : Type 0 where
  pub unwritten : IsUntouched output
  pub reports : Reports faults (halt_line Memory)
  pub status_is : status ≡ 3

abbrev pub AnswersTexts : (Text → Option (Option FileFault)) → (Text → Option Bool) → Option Asked → List ℕ → List ℕ → Device → Device → ℕ → Type 0
AnswersTexts creates keeps asked job texts output faults status =
    WritesAnswer creates keeps asked job texts output faults status ⊎ LacksAnswer output faults status

-- 4. The front

-- the whole front is written to standard output, or that fails; or it is written to a new file that has the name now, or not
abbrev pub WritesWhole : List ℕ → Device → Device → ℕ → Type 0
WritesWhole front output faults status = Takes output front × IsClean output × IsUntouched faults × (status ≡ 0)

abbrev pub StopsInFront : List ℕ → Device → Device → ℕ → Type 0
StopsInFront front output faults status = Stopped front output × HasFailed output × Reports faults (halt_line Write) × (status ≡ 3)

unfoldable pub PutsFront : (Text → Option (Option FileFault)) → (Text → Option Bool) → Option Text → List ℕ → Device → Device → ℕ → Type 0
PutsFront creates keeps None front output faults status = WritesWhole front output faults status ⊎ StopsInFront front output faults status
PutsFront creates keeps (Some name) front output faults status = SavesNamed (creates name) (keeps name) name front 0 faults status × IsUntouched output

-- the front is written, and then its record
pub record KeepsFront (creates : Text → Option (Option FileFault)) (keeps : Text → Option Bool) (next : Next) (job front : List ℕ)
    (output faults : Device) (status : ℕ) : Type 0 where
  pub answered : ℕ
  pub so_far : Port
  pub puts : PutsFront creates keeps next.name front output (between faults.before so_far) answered
  pub kept : KeepsRecord creates keeps next.asked job front answered (between so_far faults.after) status

pub record WritesFront (creates : Text → Option (Option FileFault)) (keeps : Text → Option Bool) (next : Next) (job texts : List ℕ)
    (output faults : Device) (status : ℕ) : Type 0 where
  pub front : List ℕ
  pub is : IsNext job texts (Ok front)
  pub keeps_front : KeepsFront creates keeps next job front output faults status

-- there is none: why is reported
pub record RefusesFront (job texts : List ℕ) (output faults : Device) (status : ℕ) : Type 0 where
  pub words : List ℕ
  pub is : IsNext job texts (Err words)
  pub unwritten : IsUntouched output
  pub reports : Reports faults words
  pub status_is : status ≡ 1

abbrev pub AnswersFront : (Text → Option (Option FileFault)) → (Text → Option Bool) → Next → List ℕ → List ℕ → Device → Device → ℕ → Type 0
AnswersFront creates keeps next job texts output faults status =
    WritesFront creates keeps next job texts output faults status ⊎ (RefusesFront job texts output faults status ⊎ LacksAnswer output faults status)

-- 5. All of it

unfoldable pub AnswersBytes : Bool → (Text → Option (Option FileFault)) → (Text → Option Bool) → Next → List ℕ → List ℕ → Device → Device → ℕ → Type 0
AnswersBytes true creates keeps next job texts output faults status = AnswersFront creates keeps next job texts output faults status
AnswersBytes false creates keeps next job texts output faults status = AnswersTexts creates keeps next.asked job texts output faults status

-- both files were read
pub record AnswersBoth (files : Files) (creates : Text → Option (Option FileFault)) (keeps : Text → Option Bool) (next : Next) (old new : Text)
    (output faults : Device) (status : ℕ) : Type 0 where
  pub job : List ℕ
  pub have_job : HaveBytes files (old ∷ []) job
  pub texts : List ℕ
  pub have_texts : HaveBytes files (new ∷ []) texts
  pub answers : AnswersBytes next.plan creates keeps next job texts output faults status

-- or one can't be read: nothing is written
pub record AnswersNothing (files : Files) (old new : Text) (output faults : Device) (status : ℕ) : Type 0 where
  pub unwritten : IsUntouched output
  pub why : StopsAtOne files (old ∷ []) faults status ⊎ StopsAtOne files (new ∷ []) faults status
  pub status_is : status ≡ 3

abbrev pub AnswersTwo : Files → (Text → Option (Option FileFault)) → (Text → Option Bool) → Next → Text → Text → Device → Device → ℕ → Type 0
AnswersTwo files creates keeps next old new output faults status =
    AnswersBoth files creates keeps next old new output faults status ⊎ AnswersNothing files old new output faults status

-- for two names and options that are no usage error; otherwise the usage
pub record SaysUsage (output faults : Device) (status : ℕ) : Type 0 where
  pub unwritten : IsUntouched output
  pub reports : Reports faults usage_text
  pub status_is : status ≡ 2

unfoldable pub AnswersNext : Files → (Text → Option (Option FileFault)) → (Text → Option Bool) → Option Next → List Text → Device → Device → ℕ → Type 0
AnswersNext files creates keeps None names output faults status = SaysUsage output faults status
AnswersNext files creates keeps (Some next) (old ∷ new ∷ []) output faults status = AnswersTwo files creates keeps next old new output faults status
AnswersNext files creates keeps (Some next) _ output faults status = SaysUsage output faults status
