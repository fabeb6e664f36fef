-- The effect of one record on a run and its input, and of the records up to a record that is to be reported.
use Rattle.std.specs.Prelude.{◌≡◌, ◌≤◌, ◌<◌, ◌-◌, ◌+◌, ◌^◌, ℕ, true, false, List, [], ◌∷◌, ◌++◌, Option, Some, None, Result, Ok, Err, ⊤}
use Rattle.counted_io.specs.Device.{Failed}
use Rattle.changed_texts.specs.Reading.{description_in}
use Rattle.description_parts.specs.Described.{Described}
use Rattle.description_keys.specs.declared.fault.DescError.{DescError}
use Rattle.description_keys.specs.declared.fault.DescError.TheVariants as read_error
use Rattle.pes_packet.specs.AccessUnits.{AccessUnit}
use Rattle.mux_core.specs.Buffer.{Took}
use Rattle.plan_checker.specs.Served.{Served}
use Rattle.mux_core.specs.Histories.{Change, NextTexts}
use Rattle.mux_core.specs.declared.output.OutputFault.{OutputFault}
use Rattle.unit_records.specs.Records.{IsRecord, ReadsRecord}
use Rattle.unit_records.specs.declared.reading.UnitFileError.TheVariants.{Cut, Size, Device, Memory}
use Rattle.mux_core.specs.RecordRuns.{after_records}
use Rattle.on_air.specs.declared.refusals.AirRefusal.{AirRefusal}
use Rattle.on_air.specs.declared.refusals.TextsRefusal.TheVariants as texts_refusal
use Rattle.on_air.specs.declared.answers.Heard.{Heard}
use Rattle.on_air.specs.declared.answers.Heard.TheVariants.{Taken, Refused, Changed, LinedUp, Ended}
use Rattle.on_air.specs.declared.answers.Ending.{Ending}
use Rattle.on_air.specs.declared.answers.Ending.TheVariants.{Input, Unread, Slots, Records, TextsMemory}
use Rattle.on_air.specs.declared.texts.TextsError.{TextsError}
use Rattle.on_air.specs.declared.texts.TextsError.TheVariants as text_error
use Rattle.on_air.specs.declared.answers.Verdict.{Verdict}
use Rattle.on_air.specs.declared.answers.Verdict.TheVariants.{Accepted, TextsFrom, LineUpFrom, RefusedFor, NoMemory}
use Rattle.on_air.specs.declared.line_up.LineUpError.{LineUpError}
use Rattle.on_air.specs.declared.line_up.LineUpError.TheVariants as line_up_error
use Rattle.on_air.specs.Airing.{Run, Air, air_cause, brings_line_up, brings_texts, changes_run, is_far_from, is_tick, texts_cause, texts_now, judged, caught_up}
use Rattle.on_air.specs.Airing.{air_output, limit_of, line_up_refusal}
use Rattle.on_air.specs.Courses.{Course, before_next, course_after, heard, takes_over, taken_over, with_line_up}
use Rattle.on_air.specs.AirStates.{AirState, IsOnAir, IsOut, KeepsHeadline, LineUpsFit}

-- the writer failed: it took exactly the first `sent` bytes of an output that keeps every promise
pub record Fails (run : Run) (a : Air) (start now : Option (List ℕ)) (sent : ℕ) : Type 0 where
  pub took : Took start now sent (air_output run a)
  pub line_ups : LineUpsFit run a
  pub headline : KeepsHeadline run a

-- a record was read, which has some bytes, and judged, when the run still had slots to write; if the bytes of the input are known, the record is at their
-- front
pub record HearsRecord (run : Run) (a : Air) (old left : Option (List ℕ)) (refused : Option AirRefusal) : Type 0 where
  pub slots_left : a.slots < limit_of run.terms
  pub entry : ℕ × AccessUnit
  pub cause : air_cause run a entry ≡ refused
  pub bytes : List ℕ
  pub is_record : IsRecord bytes entry
  pub known : (xs : List ℕ) → old ≡ Some xs → ReadsRecord xs left (Ok (Some entry))

-- a record was read that brings texts or a line-up; if the bytes of the input are known, it is at their front
pub record ReadsTexts (run : Run) (old left : Option (List ℕ)) : Type 0 where
  pub entry : ℕ × AccessUnit
  pub texts : changes_run run entry ≡ true
  pub known : (xs : List ℕ) → old ≡ Some xs → ReadsRecord xs left (Ok (Some entry))

-- why no record was taken, and the input that remains then: out of memory for texts or a line-up, their record is read
abbrev pub EndsAt : Run → Air → Option (List ℕ) → Option (List ℕ) → Ending → Type 0
EndsAt run a old left Input = (xs : List ℕ) → old ≡ Some xs → ReadsRecord xs left (Ok None)
EndsAt run a old left (Unread fault) = (xs : List ℕ) → old ≡ Some xs → ReadsRecord xs left (Err fault)
EndsAt run a old left Slots = (limit_of run.terms ≤ a.slots) × (left ≡ old)
EndsAt run a old left Records = (a.records ≡ 2 ^ 64 - 1) × (left ≡ old)
EndsAt run a old left TextsMemory = ReadsTexts run old left

-- a record was taken that changes the texts: its number, and the slot from which on the texts are in force
pub record ChangesAt (run : Run) (a : Air) (entry : ℕ × AccessUnit) (index slot : ℕ) : Type 0 where
  pub texts : brings_texts run entry ≡ true
  pub index_is : index ≡ a.records
  pub slot_is : slot ≡ (judged run a entry).slots

-- a record was taken that brings a line-up: its number, and the slot from which on the line-up is in force, which is the next slot when it is heard
pub record LinesUpAt (run : Run) (a : Air) (entry : ℕ × AccessUnit) (index slot : ℕ) : Type 0 where
  pub line_up : takes_over run a entry ≡ true
  pub index_is : index ≡ a.records
  pub slot_is : slot ≡ a.slots

-- the run of a course is on air at its progress
abbrev pub IsOn : Course → Option (List ℕ) → Option (List ℕ) → AirState → Type 0
IsOn c start now s = IsOnAir c.run c.air start now s

abbrev pub FailsIn : Course → Option (List ℕ) → Option (List ℕ) → ℕ → Type 0
FailsIn c start now sent = Fails c.run c.air start now sent

-- the effect of one call on a run at `a`; a record that the run follows is reported before the slots up to it are written
abbrev pub Hears : Run → Air → Option (List ℕ) → Option (List ℕ) → Option (List ℕ) → Option (List ℕ) → Result Heard OutputFault → AirState → Type 0
Hears run a old left start now (Ok Taken) s =
    (h : HearsRecord run a old left None) × ((changes_run run h.entry ≡ false) × IsOnAir run (judged run a h.entry) start now s)
Hears run a old left start now (Ok (Changed index slot)) s =
    (h : HearsRecord run a old left None) × (ChangesAt run a h.entry index slot × IsOnAir run (judged run a h.entry) start now s)
Hears run a old left start now (Ok (LinedUp index slot)) s =
    (h : HearsRecord run a old left None) × (LinesUpAt run a h.entry index slot × IsOn (course_after run a h.entry) start now s)
Hears run a old left start now (Ok (Refused index cause)) s =
    (index ≡ a.records) × ((h : HearsRecord run a old left (Some cause)) × IsOnAir run (judged run a h.entry) start now s)
Hears run a old left start now (Ok (Ended why)) s = EndsAt run a old left why × IsOnAir run a start now s
Hears run a old left start now (Err fault) s = (h : HearsRecord run a old left None) × FailsIn (course_after run a h.entry) start now fault.sent

-- why bytes that are no description are not put on air
abbrev pub unread_error : DescError → TextsError
unread_error read_error.Memory = text_error.Memory
unread_error (read_error.Refused fault) = text_error.Refused (texts_refusal.Unread fault)

-- the texts that bytes are read as, if they may be put on air after the texts in force; or why they are refused
abbrev pub JudgesTexts : Run → Air → List ℕ → Result Described TextsError → Type 0
JudgesTexts run a bytes (Ok texts) = (description_in bytes ≡ Ok texts) × (texts_cause run.scheduled.description (texts_now run a) (Ok texts) ≡ None)
JudgesTexts run a bytes (Err (text_error.Refused cause)) = texts_cause run.scheduled.description (texts_now run a) (description_in bytes) ≡ Some cause
JudgesTexts run a bytes (Err text_error.Memory) = ⊤

-- the line-up in force from this slot on; or why it is refused, and nothing has changed
abbrev pub TakesOverFrom : Run → Air → ℕ × AccessUnit → Served → Option (List ℕ) → Option (List ℕ) → Result ℕ LineUpError → AirState → Type 0
TakesOverFrom run a entry next start now (Ok slot) s =
    (line_up_refusal run a entry ≡ None) × ((slot ≡ a.slots) × IsOnAir (with_line_up run next) (taken_over run a next.description) start now s)
TakesOverFrom run a entry next start now (Err (line_up_error.Refused cause)) s = (line_up_refusal run a entry ≡ Some cause) × IsOnAir run a start now s
TakesOverFrom run a entry next start now (Err line_up_error.Memory) s = IsOnAir run a start now s

-- the same for a record that is already read
abbrev pub TakesUnit : Run → Air → ℕ × AccessUnit → Option (List ℕ) → Option (List ℕ) → Result Verdict OutputFault → AirState → Type 0
TakesUnit run a entry start now (Ok Accepted) s =
    (air_cause run a entry ≡ None) × ((changes_run run entry ≡ false) × IsOnAir run (judged run a entry) start now s)
TakesUnit run a entry start now (Ok (TextsFrom slot)) s =
    (air_cause run a entry ≡ None) × ((brings_texts run entry ≡ true) × ((slot ≡ (judged run a entry).slots) × IsOnAir run (judged run a entry) start now s))
TakesUnit run a entry start now (Ok (LineUpFrom slot)) s =
    (air_cause run a entry ≡ None) × ((takes_over run a entry ≡ true) × ((slot ≡ a.slots) × IsOn (course_after run a entry) start now s))
TakesUnit run a entry start now (Ok (RefusedFor cause)) s = (air_cause run a entry ≡ Some cause) × IsOnAir run (judged run a entry) start now s
TakesUnit run a entry start now (Ok NoMemory) s = (changes_run run entry ≡ true) × IsOnAir run a start now s
TakesUnit run a entry start now (Err fault) s = (air_cause run a entry ≡ None) × FailsIn (course_after run a entry) start now fault.sent

-- a record that brings texts or a line-up, no tick and not too far ahead
pub record IsNearChange (run : Run) (a : Air) (entry : ℕ × AccessUnit) : Type 0 where
  pub changes : changes_run run entry ≡ true
  pub unit : is_tick entry ≡ false
  pub near : is_far_from run a entry ≡ false

-- a record that brings texts, no tick and not too far ahead
pub record IsNearTexts (run : Run) (a : Air) (entry : ℕ × AccessUnit) : Type 0 where
  pub texts : brings_texts run entry ≡ true
  pub unit : is_tick entry ≡ false
  pub near : is_far_from run a entry ≡ false

-- a record that brings a line-up, no tick and not too far ahead
pub record IsNearLineUp (run : Run) (a : Air) (entry : ℕ × AccessUnit) : Type 0 where
  pub line_up : brings_line_up run entry ≡ true
  pub unit : is_tick entry ≡ false
  pub near : is_far_from run a entry ≡ false

-- why such a line-up does not come on air
abbrev pub RefusesLineUp : Run → Air → ℕ × AccessUnit → LineUpError → Type 0
RefusesLineUp run a entry (line_up_error.Refused cause) = line_up_refusal run a entry ≡ Some cause
RefusesLineUp run a entry line_up_error.Memory = ⊤

-- the number of records rises with each record that is judged
abbrev pub CountsTaken : ℕ → ℕ → Verdict → Type 0
CountsTaken old new Accepted = new ≡ old + 1
CountsTaken old new (TextsFrom slot) = new ≡ old + 1
CountsTaken old new (LineUpFrom slot) = new ≡ old + 1
CountsTaken old new (RefusedFor cause) = new ≡ old + 1
CountsTaken old new NoMemory = new ≡ old

-- the number of records rises with each record read
abbrev pub CountsRecord : ℕ → ℕ → Heard → Type 0
CountsRecord old new Taken = (old < 2 ^ 64 - 1) × (new ≡ old + 1)
CountsRecord old new (Refused index cause) = (old < 2 ^ 64 - 1) × (new ≡ old + 1)
CountsRecord old new (Changed index slot) = (old < 2 ^ 64 - 1) × (new ≡ old + 1)
CountsRecord old new (LinedUp index slot) = (old < 2 ^ 64 - 1) × (new ≡ old + 1)
CountsRecord old new (Ended why) = new ≡ old

-- the number of records rises with all records read, up to a record that is to be reported
abbrev pub CountsRecords : ℕ → ℕ → Heard → Type 0
CountsRecords old new Taken = ⊥
CountsRecords old new (Refused index cause) = (old < new) × (new ≤ 2 ^ 64 - 1)
CountsRecords old new (Changed index slot) = (old < new) × (new ≤ 2 ^ 64 - 1)
CountsRecords old new (LinedUp index slot) = (old < new) × (new ≤ 2 ^ 64 - 1)
CountsRecords old new (Ended why) = old ≤ new

-- the packets that wait after a record that was taken, by the bytes that the input holds then; a refused record changes nothing
abbrev pub LetsOut : List ℕ → AirState → Heard → Type 0
LetsOut held s Taken = IsOut held s
LetsOut held s (Refused index cause) = ⊤
LetsOut held s (Changed index slot) = ⊤
LetsOut held s (LinedUp index slot) = ⊤
LetsOut held s (Ended why) = ⊤

-- a device is named exactly if a call of it failed
abbrev pub NamesDevice : Result Heard OutputFault → ℕ → ℕ → ℕ → ℕ → Type 0
NamesDevice (Ok Taken) read0 read1 written0 written1 = (read1 ≡ read0) × (written1 ≡ written0)
NamesDevice (Ok (Refused index cause)) read0 read1 written0 written1 = (read1 ≡ read0) × (written1 ≡ written0)
NamesDevice (Ok (Changed index slot)) read0 read1 written0 written1 = (read1 ≡ read0) × (written1 ≡ written0)
NamesDevice (Ok (LinedUp index slot)) read0 read1 written0 written1 = (read1 ≡ read0) × (written1 ≡ written0)
NamesDevice (Ok (Ended Input)) read0 read1 written0 written1 = (read1 ≡ read0) × (written1 ≡ written0)
NamesDevice (Ok (Ended (Unread Cut))) read0 read1 written0 written1 = (read1 ≡ read0) × (written1 ≡ written0)
NamesDevice (Ok (Ended (Unread Size))) read0 read1 written0 written1 = (read1 ≡ read0) × (written1 ≡ written0)
NamesDevice (Ok (Ended (Unread Device))) read0 read1 written0 written1 = Failed read0 read1 × (written1 ≡ written0)
NamesDevice (Ok (Ended (Unread Memory))) read0 read1 written0 written1 = (read1 ≡ read0) × (written1 ≡ written0)
NamesDevice (Ok (Ended Slots)) read0 read1 written0 written1 = (read1 ≡ read0) × (written1 ≡ written0)
NamesDevice (Ok (Ended Records)) read0 read1 written0 written1 = (read1 ≡ read0) × (written1 ≡ written0)
NamesDevice (Ok (Ended TextsMemory)) read0 read1 written0 written1 = (read1 ≡ read0) × (written1 ≡ written0)
NamesDevice (Err fault) read0 read1 written0 written1 = (read1 ≡ read0) × Failed written0 written1

-- ---- records up to a record that is to be reported

-- before each of n records the run still had slots to write
abbrev pub HasMore : Course → Type 0
HasMore c = c.air.slots < limit_of c.run.terms

abbrev pub HasSlotsLeft : Run → ℕ → List ℕ → Type 0
HasSlotsLeft run n xs = (m : ℕ) → m < n → HasMore (heard run m xs)

-- the run is where n records of these bytes lead it, and the rest of the bytes is left
pub record HeardFrom (run : Run) (n : ℕ) (c : Course) (rest : List ℕ) : Type 0 where
  pub bytes : List ℕ
  pub led : c ≡ heard run n bytes
  pub rest_is : rest ≡ after_records n bytes
  pub slots_left : HasSlotsLeft run n bytes

-- the run, which began as `run`, has read n records, and no record after its last slot: of an input that had the bytes `origin` at the beginning of the run, if
-- these are known; in any case, as at a standard input, of some bytes, whatever bytes are left
pub record HasHeard (run : Run) (n : ℕ) (c : Course) (origin left : Option (List ℕ)) : Type 0 where
  pub known : (xs : List ℕ) → origin ≡ Some xs → (c ≡ heard run n xs) × (left ≡ Some (after_records n xs)) × HasSlotsLeft run n xs
  pub some : (rest : List ℕ) → HeardFrom run n c rest

-- a number of records was read, and the run is at `c`
pub record HeardOn (run : Run) (origin left : Option (List ℕ)) (c : Course) : Type 0 where
  pub count : ℕ
  pub heard_is : HasHeard run count c origin left

-- further records are taken, without a refusal or a change; with a refusal at the end; with a change at the end, from this slot on
pub record AddsNone (a b : Air) : Type 0 where
  pub before : b.before ≡ a.before
  pub refused : b.refused ≡ a.refused
  pub changes : b.changes ≡ a.changes

pub record AddsRefusal (a b : Air) (index : ℕ) (cause : AirRefusal) : Type 0 where
  pub before : b.before ≡ a.before
  pub refused : b.refused ≡ a.refused ++ (index, cause) ∷ []
  pub changes : b.changes ≡ a.changes

pub record AddsChange (a b : Air) (index slot : ℕ) : Type 0 where
  pub before : b.before ≡ a.before
  pub refused : b.refused ≡ a.refused
  pub change : Change
  pub changes : b.changes ≡ NextTexts change a.changes
  pub from : change.from ≡ slot
  pub slots : b.slots ≡ slot
  pub records : b.records ≡ index + 1

-- the same with a line-up at the end: `mid` is the progress when its record is heard
pub record AddsLineUp (run : Run) (a : Air) (c : Course) (index slot : ℕ) : Type 0 where
  pub mid : Air
  pub adds : AddsNone a mid
  pub next : Served
  pub run_is : c.run ≡ with_line_up run next
  pub before : c.air.before ≡ before_next run mid next.description
  pub changes : c.air.changes ≡ (taken_over run mid next.description).changes
  pub refused : c.air.refused ≡ a.refused
  pub from : slot ≡ mid.slots
  pub records : c.air.records ≡ index + 1

-- the effect of the records up to a record that is to be reported, on a run that began as `first` and is at the course `c`; after a refused record the run is at
-- `b` before it follows that record
abbrev pub HearsOn : Run → Course → Option (List ℕ) → Option (List ℕ) → Option (List ℕ) → Option (List ℕ) → Result Heard OutputFault → AirState → Type 0
HearsOn first c origin left start now (Ok Taken) s = ⊥
HearsOn first c origin left start now (Ok (Refused index cause)) s =
    (b : Air) × HeardOn first origin left (record { run = c.run; air = caught_up c.run b (Some cause) }) × AddsRefusal c.air b index cause
    × IsOnAir c.run b start now s
HearsOn first c origin left start now (Ok (Changed index slot)) s =
    (b : Air) × HeardOn first origin left (record { run = c.run; air = b }) × AddsChange c.air b index slot × IsOnAir c.run b start now s
HearsOn first c origin left start now (Ok (LinedUp index slot)) s =
    (b : Course) × HeardOn first origin left b × AddsLineUp c.run c.air b index slot × IsOn b start now s
HearsOn first c origin left start now (Ok (Ended why)) s =
    (b : Air) × ((before : Option (List ℕ)) × HeardOn first origin before (record { run = c.run; air = b }) × EndsAt c.run b before left why)
    × AddsNone c.air b × IsOnAir c.run b start now s
HearsOn first c origin left start now (Err fault) s =
    (b : Course) × HeardOn first origin left b × (b.air.refused ≡ c.air.refused) × FailsIn b start now fault.sent
