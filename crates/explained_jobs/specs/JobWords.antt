-- The words for a whole job: for a plan that is missing, for its description and plan, for a second plan, for its records and units.
use Rattle.std.specs.Prelude.{◌≡◌, ℕ, ◌==◌, Bool, true, false, if◌then◌else◌, List, [], ◌++◌, length, Option, Some, None, Result, Ok, Err}
use Rattle.std.specs.Prelude.{codes, decimal, nat_eq}
use Rattle.std.specs.List.{list_any, starts_with}
use Rattle.slot_plan.specs.Entries.{Entry}
use Rattle.mux_core.specs.declared.multiplexing.MuxError.{MuxError}
use Rattle.mux_core.specs.declared.multiplexing.MuxError.TheVariants.{TooManySlots, Periods, Feed, Device, Memory}
use Rattle.unit_records.specs.declared.reading.UnitFileError.{UnitFileError}
use Rattle.unit_records.specs.declared.reading.UnitFileError.TheVariants as unread
use Rattle.checked_jobs.specs.Jobs.{BadDescription, BadLine, BadSecondLine, Fails, HasNoPlan, JobFaultView, JobView, SecondFails}
use Rattle.checked_jobs.specs.Jobs.{job_of}
use Rattle.job_parts.specs.Parts.{first_plan_line, parts_of}
use Rattle.plan_diagnosis.specs.ConditionLines.{switch_line}
use Rattle.diagnosis.specs.Explained.{explained}
use Rattle.diagnosis.specs.TomlNotes.{TomlNoteView}
use Rattle.checked_jobs.specs.MuxJobs.{InJob, InRecord, MuxFaultView, MuxJobView, mux_job_of}
use Rattle.checked_jobs.specs.Multiplexing.{cause_of}
use Rattle.checked_jobs.specs.declared.multiplexing.MuxOptions.{MuxOptions}
use Rattle.explained_jobs.specs.UnitWords.{refused_words}

-- 1. Records and units

-- a run of no slots: it is refused for the first refused unit
abbrev pub dry : Bool → MuxOptions
dry switch = record { hex = false; slots = Some 0; periods = if switch then Some 1 else None }

-- the words for the first refused unit
unfoldable pub error_words : MuxJobView → Option MuxError → List ℕ
error_words j (Some (Feed index cause)) = refused_words j.description j.units index cause
error_words j (Some TooManySlots) = []
error_words j (Some Periods) = []
error_words j (Some (Device sent)) = []
error_words j (Some Memory) = []
error_words j None = []

-- why a record is none
unfoldable pub record_words : ℕ → UnitFileError → List ℕ
record_words index unread.Cut = codes "record " ++ decimal index ++ codes ": the input ends inside it\n"
record_words index unread.Size = codes "record " ++ decimal index ++ codes ": its size is over 4000000 bytes, or its marks are unknown\n"
record_words index unread.Device = []
record_words index unread.Memory = []

-- a condition on two plans has the two numbers that it compares
unfoldable pub switch_words : Entry → List ℕ
switch_words e = codes "the second plan can't follow: " ++ switch_line e

-- the faults after a plan that serves its description
unfoldable pub job_fault_words : JobFaultView → List ℕ
job_fault_words (SecondFails e) = switch_words e
job_fault_words HasNoPlan = []
job_fault_words (BadDescription f) = []
job_fault_words (BadLine line) = []
job_fault_words (Fails e) = []
job_fault_words (BadSecondLine line) = []

unfoldable pub fault_words : MuxFaultView → List ℕ
fault_words (InJob fault) = job_fault_words fault
fault_words (InRecord index fault) = record_words index fault

-- the words for a job with its units, or for its fault
unfoldable pub units_words : Bool → Result MuxJobView MuxFaultView → List ℕ
units_words switch (Ok j) = error_words j (cause_of (dry switch) j)
units_words switch (Err fault) = fault_words fault

-- 2. A second plan

-- these words if there are any, otherwise the next
unfoldable pub or_words : List ℕ → List ℕ → List ℕ
or_words first next = if length first == 0 then next else first

abbrev pub second_line : List ℕ
second_line = codes "the second plan:\n"

-- words of a second plan
unfoldable pub headed : List ℕ → List ℕ
headed words = if length words == 0 then [] else second_line ++ words

-- the bytes before the first plan
unfoldable pub description_part : List ℕ → Option (List ℕ × List ℕ) → List ℕ
description_part bytes None = bytes
description_part bytes (Some parts) = parts.0

-- the description with the second plan alone
abbrev pub second_alone : List ℕ → List ℕ → List ℕ
second_alone bytes rest = description_part bytes (parts_of bytes) ++ rest

abbrev pub second_words : TomlNoteView → List ℕ → List ℕ → List ℕ
second_words note bytes rest = or_words (headed (explained note (second_alone bytes rest))) (units_words true (mux_job_of true bytes))

-- 3. All of it

-- a text of a plan begins
abbrev pub begins_plan : List ℕ → Bool
begins_plan rest = starts_with nat_eq rest first_plan_line

unfoldable pub after_plan : TomlNoteView → List ℕ → Result JobView JobFaultView → List ℕ
after_plan note bytes (Err fault) = []
after_plan note bytes (Ok j) = if begins_plan j.rest then second_words note bytes j.rest else units_words false (mux_job_of false bytes)

-- the words for the description and the plan, otherwise the words for the bytes after them
abbrev pub parts_words : TomlNoteView → TomlNoteView → List ℕ → List ℕ
parts_words first second bytes = or_words (explained first bytes) (after_plan second bytes (job_of false bytes))

-- records follow a description without a plan: no line is `tsplan 1`, and a byte is zero, as in each record and in no TOML text
unfoldable pub lacks_plan : List ℕ → Option (List ℕ × List ℕ) → Bool
lacks_plan bytes None = list_any (λ b. b == 0) bytes
lacks_plan bytes (Some parts) = false

abbrev pub plan_line : List ℕ
plan_line = codes "expected a plan between the description and the records: no line is tsplan 1, and the input has zero bytes, as records have\n"

-- the line that asks for a plan, if it is missing; otherwise the words for the parts
abbrev pub job_words : TomlNoteView → TomlNoteView → List ℕ → List ℕ
job_words first second bytes = if lacks_plan bytes (parts_of bytes) then plan_line else parts_words first second bytes

-- for any message of the TOML reader: a second plan by itself; it and the units after it; the bytes after the first plan; all parts; the job
abbrev pub IsSecondAlone : List ℕ → List ℕ → List ℕ → Type 0
IsSecondAlone bytes rest text = (note : TomlNoteView) × (text ≡ headed (explained note (second_alone bytes rest)))

abbrev pub IsSecondExplained : List ℕ → List ℕ → List ℕ → Type 0
IsSecondExplained bytes rest text = (note : TomlNoteView) × (text ≡ second_words note bytes rest)

abbrev pub IsRestExplained : List ℕ → List ℕ → Type 0
IsRestExplained bytes text = (note : TomlNoteView) × (text ≡ after_plan note bytes (job_of false bytes))

pub record ArePartsExplained (bytes text : List ℕ) : Type 0 where
  pub first : TomlNoteView
  pub second : TomlNoteView
  pub is : text ≡ parts_words first second bytes

pub record IsJobExplained (bytes text : List ℕ) : Type 0 where
  pub first : TomlNoteView
  pub second : TomlNoteView
  pub is : text ≡ job_words first second bytes
