-- The records of a run, taken one after another, and a line for each refused record and each change of the texts or of the line-up.
use Rattle.std.specs.Prelude.{◌≡◌, ◌⊎◌, ◌≤◌, ◌<◌, ◌||◌, ℕ, Bool, true, nat_lt, cond, List, [], ◌∷◌, ◌++◌, fold, length, map, Option, Some, None, Result, Ok, Err, codes, ⊤}
use Rattle.devices.specs.Devices.{Device, Port, HasFailed, IsClean, between}
use Rattle.devices.specs.Lines.{Reports, line_text}
use Rattle.mux_core.specs.Histories.{TextsSoFar, first_texts, listed_changes, past_of}
use Rattle.mux_core.specs.declared.output.OutputFault.{OutputFault}
use Rattle.unit_records.specs.declared.reading.UnitFileError.TheVariants.{Cut, Size, Device as AtReader, Memory}
use Rattle.on_air.specs.declared.refusals.AirRefusal.{AirRefusal}
use Rattle.on_air.specs.declared.refusals.AirRefusal.TheVariants.{Feed, Ahead, Followed, Texts, LineUp}
use Rattle.unit_queue.specs.Codes.{feed_code}
use Rattle.on_air.specs.declared.answers.Ending.{Ending}
use Rattle.on_air.specs.declared.answers.Ending.TheVariants.{Input, Unread, Slots, Records, TextsMemory}
use Rattle.turns.specs.Turns.{Turn}
use Rattle.on_air.specs.Airing.{Run, silence, texts_now}
use Rattle.on_air.specs.AirStates.{AirState}
use Rattle.on_air.specs.Courses.{Course}
use Rattle.on_air.specs.Hearing.{EndsAt, FailsIn, HeardOn, IsOn}
use Rattle.explained_jobs.specs.UnitWords.{air_line, limits_of}
use Rattle.explained_jobs.specs.declared.unit_limits.UnitLimits.{UnitLimits}
use Rattle.description_parts.specs.Described.{Described}
use Rattle.tsair_cli.specs.declared.hearing.RecordsEnd.{RecordsEnd}
use Rattle.tsair_cli.specs.declared.repeats.Repeats.{Repeats}
use Rattle.tsair_cli.specs.Repeats.{is_repeat, none_refused, repeats_text, with_cause}
use Rattle.tsair_cli.specs.States.{Saving, KeepsState}

-- 1. The lines of records that are refused

-- what the streams of the texts in force declare, and that these are they, if there was memory for them
abbrev pub limits_in : Described → List UnitLimits
limits_in d = map limits_of d.streams

abbrev pub AreLimits : Option (List UnitLimits) → Described → Type 0
AreLimits None d = ⊤
AreLimits (Some limits) d = limits ≡ limits_in d

-- the record's number, and why; for a record that the run follows in spite of a leap: its number, the number of packets before it, and the DTS before and after
-- the leap
unfoldable pub numbers_by : ℕ → AirRefusal → List ℕ
numbers_by index (Feed unit) = line_text (codes "unit") (index ∷ feed_code unit.cause ∷ [])
numbers_by index (Ahead far) = line_text (codes "unit") (index ∷ 11 ∷ [])
numbers_by index (Followed packet from to) = line_text (codes "leap") (index ∷ packet ∷ from ∷ to ∷ [])
numbers_by index (Texts refusal) = line_text (codes "switch refused") (index ∷ [])
numbers_by index (LineUp refusal) = line_text (codes "switch refused") (index ∷ [])

abbrev pub numbers_line : ℕ × AirRefusal → List ℕ
numbers_line refused = numbers_by refused.0 refused.1

-- a refused record is reported in words, by what the streams declare; by its numbers alone if there is no memory for words
abbrev pub ReportsRefusal : List UnitLimits → ℕ × AirRefusal → Device → Type 0
ReportsRefusal streams refused faults = Reports faults (air_line streams refused.0 refused.1) ⊎ Reports faults (numbers_line refused)

-- the line about the records before that have none, and then the line of a refused record
pub record ReportsBoth (streams : List UnitLimits) (repeats : Repeats) (refused : ℕ × AirRefusal) (faults : Device) : Type 0 where
  pub mid : Port
  pub more : Reports (between faults.before mid) (repeats_text repeats)
  pub refusal : ReportsRefusal streams refused (between mid faults.after)

-- the record's number, and the slot from which on its texts, or its line-up, are in force
abbrev pub change_line : ℕ → ℕ → List ℕ
change_line index slot = line_text (codes "switch") (index ∷ slot ∷ [])

-- a change was reported, and the versions of the texts are written to the file that is asked for, or lost
pub record ReportsChange (saving : Saving) (index slot : ℕ) (texts : Described) (faults : Device) (lost : Bool) : Type 0 where
  pub mid : Port
  pub line : Reports (between faults.before mid) (change_line index slot)
  pub state : KeepsState saving texts (between mid faults.after) lost

-- what is reported: the refused records that have no line; a refusal, by its number and cause; or a change of the texts or of the line-up, by its number, its
-- slot, the texts that are in force from there on, and whether their versions are lost
pub data Reported : Type 0 where
  OfMore : Repeats → Reported
  OfRefusal : ℕ → AirRefusal → Reported
  OfChange : ℕ → ℕ → Described → Bool → Reported

-- a refusal is reported by what the streams of the texts in force declare
abbrev pub ReportsRecord : Saving → Described → Reported → Device → Type 0
ReportsRecord saving d (OfMore repeats) faults = Reports faults (repeats_text repeats)
ReportsRecord saving d (OfRefusal index cause) faults = ReportsRefusal (limits_in d) (index, cause) faults
ReportsRecord saving d (OfChange index slot texts lost) faults = ReportsChange saving index slot texts faults lost

-- the texts in force after a report, and after all of them
unfoldable pub texts_after : Described → Reported → Described
texts_after d (OfMore repeats) = d
texts_after d (OfRefusal index cause) = d
texts_after d (OfChange index slot texts lost) = texts

abbrev pub texts_among : Described → List Reported → Described
texts_among d reported = fold (λ texts r. texts_after texts r) d reported

-- records were reported one after another
unfoldable pub ReportsRecords : Saving → Described → Port → Port → List Reported → Type 0
ReportsRecords saving d before after [] = after ≡ before
ReportsRecords saving d before after (reported ∷ more) =
    (mid : Port) × ReportsRecord saving d reported (between before mid) × ReportsRecords saving (texts_after d reported) mid after more

-- the lines about refused records among them, in order; the slots of the changes with their texts, the last first; and whether versions are lost, there or before
unfoldable pub lines_among : List Reported → List Reported
lines_among [] = []
lines_among (OfMore repeats ∷ more) = OfMore repeats ∷ lines_among more
lines_among (OfRefusal index cause ∷ more) = OfRefusal index cause ∷ lines_among more
lines_among (OfChange index slot texts lost ∷ more) = lines_among more

unfoldable pub with_changed : List (ℕ × Described) → Reported → List (ℕ × Described)
with_changed changes (OfMore repeats) = changes
with_changed changes (OfRefusal index cause) = changes
with_changed changes (OfChange index slot texts lost) = (slot, texts) ∷ changes

abbrev pub changed_among : List Reported → List (ℕ × Described)
changed_among reported = fold (λ changes r. with_changed changes r) [] reported

unfoldable pub with_lost : Bool → Reported → Bool
with_lost before (OfMore repeats) = before
with_lost before (OfRefusal index cause) = before
with_lost before (OfChange index slot texts lost) = lost || before

abbrev pub lost_among : Bool → List Reported → Bool
lost_among before reported = fold (λ lost r. with_lost lost r) before reported

-- the lines that a refused record has: none if it is like the last one that has a line
abbrev pub lines_by : Repeats → ℕ × AirRefusal → List Reported
lines_by repeats refused = cond (is_repeat repeats refused.1) [] (OfMore repeats ∷ OfRefusal refused.0 refused.1 ∷ [])

-- the lines of refused records, and the records that have none since the last line; and all lines at the end
pub record Said : Type 0 where
  pub lines : List Reported
  pub repeats : Repeats

abbrev pub with_refused : Said → ℕ × AirRefusal → Said
with_refused said refused = record { lines = said.lines ++ lines_by said.repeats refused; repeats = with_cause said.repeats refused.1 }

abbrev pub said_of : List (ℕ × AirRefusal) → Said
said_of refused = fold (λ said r. with_refused said r) (record { lines = []; repeats = none_refused }) refused

abbrev pub all_lines : List (ℕ × AirRefusal) → List Reported
all_lines refused = (said_of refused).lines ++ (OfMore (said_of refused).repeats ∷ [])

-- the slots from which on texts are in force, with the texts, the last first: of a line-up, after those with which it came on air, and of the line-ups before
-- it. The first line-up comes without a change
abbrev pub changes_since : TextsSoFar → List (ℕ × Described)
changes_since changes = map (λ c. (c.from, c.texts)) (listed_changes changes)

abbrev pub texts_begun : Described → TextsSoFar → Described
texts_begun d changes = first_texts (past_of changes) d

abbrev pub changes_before : ℕ → Described → List Turn → List (ℕ × Described)
changes_before from texts [] = []
changes_before from texts (turn ∷ turns) =
    (from, texts)
    ∷ (changes_since turn.history.changes
    ++ changes_before turn.from (texts_begun turn.scheduled.description turn.history.changes) turns)

abbrev pub changes_of : Course → List (ℕ × Described)
changes_of c =
    changes_since c.air.changes ++ changes_before c.air.before.from (texts_begun c.run.scheduled.description c.air.changes) c.air.before.turns

abbrev pub has_refused : Course → Bool
has_refused c = nat_lt 0 (length c.air.refused)

-- 2. All records

-- the run has come as far as `came`, over bytes that the reader gave at its beginning; it has written the versions of its first texts to the file that is asked
-- for, or lost them, and then reported the refused records and each change
pub record Airs (saving : Saving) (run : Run) (origin left : Option (List ℕ)) (faults : Device) : Type 0 where
  pub came : Course
  pub heard_is : HeardOn run origin left came
  pub first : Port
  pub begun_lost : Bool
  pub begun : KeepsState saving (texts_now run silence) (between faults.before first) begun_lost
  pub reported : List Reported
  pub so_far : ReportsRecords saving (texts_now run silence) first faults.after reported
  pub lines : (lines_among reported ≡ (said_of came.air.refused).lines) ⊎ (lines_among reported ≡ all_lines came.air.refused)

-- why the run takes no further record: a record was refused, if that ends a run; or the end of the input, of the slots or of the records
abbrev pub EndsBy : Course → Bool → Option (List ℕ) → Option (List ℕ) → Option Ending → Type 0
EndsBy came stop before left None = (stop ≡ true) × ((has_refused came ≡ true) × (left ≡ before))
EndsBy came stop before left (Some why) = EndsAt came.run came.air before left why

-- if the first refused record ends a run: exactly one record was refused if the run has no other end, otherwise no record was refused; a record that the run
-- follows counts as refused
abbrev pub StopsAtFirst : Course → Option Ending → Type 0
StopsAtFirst came None = length came.air.refused ≡ 1
StopsAtFirst came (Some why) = came.air.refused ≡ []

-- a call of the reader failed exactly if that is why
abbrev pub NamesReader : Device → Option Ending → Type 0
NamesReader input None = IsClean input
NamesReader input (Some Input) = IsClean input
NamesReader input (Some (Unread Cut)) = IsClean input
NamesReader input (Some (Unread Size)) = IsClean input
NamesReader input (Some (Unread AtReader)) = HasFailed input
NamesReader input (Some (Unread Memory)) = IsClean input
NamesReader input (Some Slots) = IsClean input
NamesReader input (Some Records) = IsClean input
NamesReader input (Some TextsMemory) = IsClean input

-- the records ended, and all refused records and each change were reported
pub record EndsRecords (saving : Saving) (run : Run) (stop : Bool) (start : Option (List ℕ)) (input output faults : Device) (end : RecordsEnd) (s : AirState)
    : Type 0 where
  pub rest : Option (List ℕ)
  pub airs : Airs saving run input.before.bytes rest faults
  pub ends : EndsBy airs.came stop rest input.after.bytes end.why
  pub stops : stop ≡ true → StopsAtFirst airs.came end.why
  pub lines : lines_among airs.reported ≡ all_lines airs.came.air.refused
  pub changed : changed_among airs.reported ≡ changes_of airs.came
  pub refused : end.has_refused ≡ has_refused airs.came
  pub lost : end.has_lost ≡ lost_among airs.begun_lost airs.reported
  pub state : IsOn airs.came start output.after.bytes s
  pub reader : NamesReader input end.why
  pub clean : IsClean output

-- the writer failed within the slots of the last record
pub record FailsRecords (saving : Saving) (run : Run) (stop : Bool) (start : Option (List ℕ)) (input output faults : Device) (sent : ℕ) : Type 0 where
  pub airs : Airs saving run input.before.bytes input.after.bytes faults
  pub stops : stop ≡ true → length airs.came.air.refused ≤ 1
  pub fails : FailsIn airs.came start output.after.bytes sent
  pub clean : IsClean input
  pub failed : HasFailed output

abbrev pub HearsAll : Saving → Run → Bool → Option (List ℕ) → Device → Device → Device → Result RecordsEnd OutputFault → AirState → Type 0
HearsAll saving run stop start input output faults (Ok end) s = EndsRecords saving run stop start input output faults end s
HearsAll saving run stop start input output faults (Err fault) s = FailsRecords saving run stop start input output faults fault.sent
