-- A service by hand: a description, a plan and the records of access units, in files, to packets.
use Rattle.std.specs.Prelude.{◌≡◌, ◌⊎◌, ◌-◌, ◌<◌, ◌==◌, ◌||◌, ℕ, Bool, true, false, if◌then◌else◌, Option, Some, None, Result, Ok, Err}
use Rattle.std.specs.Prelude.{List, [], ◌∷◌, ◌++◌, length, slice_index}
use Rattle.devices.specs.Devices.{Device, IsUntouched, Port, between}
use Rattle.devices.specs.Files.{Files}
use Rattle.devices.specs.Lines.{Reports}
use Rattle.devices.specs.Outcomes.{halt_line}
use Rattle.devices.specs.Runs.{Performs}
use Rattle.devices.specs.WholeInput.{ReadsInput}
use Rattle.devices.specs.declared.halt.Halt.{Halt}
use Rattle.devices.specs.declared.halt.Halt.TheVariants.{Memory}
use Rattle.explained_jobs.specs.JobWords.{IsJobExplained}
use Rattle.tsjob_cli.specs.ReadFiles.{ReadsAll}
use Rattle.tsmux_cli.specs.Planning.{MakesPlan}
use Rattle.word_faults.specs.CommandLine.{Text}
use Rattle.tsremux_cli.specs.Muxing.{MuxesBytes}
use Rattle.tsremux_cli.specs.declared.figures.Figures.{Figures}
use Rattle.tsremux_cli.specs.declared.figures.Remuxed.{Remuxed}
use Rattle.tsremux_cli.specs.declared.figures.Remuxed.TheVariants.{Whole, Ended}

-- 1. Why there are no packets

-- the words of `tsjob explain` for bytes are reported
pub record ReportsWords (bytes : List ℕ) (faults : Device) : Type 0 where
  pub words : List ℕ
  pub explained : IsJobExplained bytes words
  pub reports : Reports faults words

-- for a fault in them: if memory runs out for the words, that is reported
abbrev pub SaysIf : Bool → List ℕ → Device → Type 0
SaysIf true bytes faults = ReportsWords bytes faults ⊎ Reports faults (halt_line Memory)
SaysIf false bytes faults = IsUntouched faults

abbrev pub SaysWhy : List ℕ → ℕ → Device → Type 0
SaysWhy bytes status faults = SaysIf (status == 1) bytes faults

-- 2. Its plan

-- the effects of `tsmux plan` with the bytes of a description, and a writer that held nothing
pub record RunsPlan (description : List ℕ) (plan faults : Device) (status : ℕ) : Type 0 where
  pub input : Device
  pub begins : input.before.bytes ≡ Some description
  pub empty : plan.before.bytes ≡ Some []
  pub runs : Performs MakesPlan input plan faults status

-- `tsmux plan` writes this plan, and its status is 0
pub record WritesPlan (description plan : List ℕ) (faults : Device) : Type 0 where
  pub written : Device
  pub runs : RunsPlan description written faults 0
  pub is : written.after.bytes ≡ Some plan

-- `tsmux plan` ends otherwise, and the words for that follow its line
pub record WritesNone (description : List ℕ) (faults : Device) (status : ℕ) : Type 0 where
  pub written : Device
  pub so_far : Port
  pub runs : RunsPlan description written (between faults.before so_far) status
  pub fails : 0 < status
  pub why : SaysWhy description status (between so_far faults.after)

abbrev pub PlansFor : List ℕ → Device → Result (List ℕ) ℕ → Type 0
PlansFor description faults (Ok plan) = WritesPlan description plan faults
PlansFor description faults (Err status) = WritesNone description faults status

-- the plan in the file of a name; without a name, the plan of `tsmux plan`
abbrev pub ReadsPlan : Files → Option Text → List ℕ → Device → Result (List ℕ) ℕ → Type 0
ReadsPlan files (Some name) description faults result = ReadsAll files (name ∷ []) faults result
ReadsPlan files None description faults result = PlansFor description faults result

-- 3. Its records

-- the input, or why it was not read to its end
pub record StopsReading (input faults : Device) (status : ℕ) : Type 0 where
  pub halt : Halt
  pub unread : ReadsInput input (Err halt)
  pub reports : Reports faults (halt_line halt)
  pub status_is : status ≡ 3

abbrev pub ReadsOn : Device → Device → Result (List ℕ) ℕ → Type 0
ReadsOn input faults (Ok bytes) = ReadsInput input (Ok bytes) × IsUntouched faults
ReadsOn input faults (Err status) = StopsReading input faults status

-- the records in the file of a name; without one, the input
abbrev pub ReadsRecords : Files → Option Text → Device → Device → Result (List ℕ) ℕ → Type 0
ReadsRecords files (Some name) input faults result = ReadsAll files (name ∷ []) faults result × IsUntouched input
ReadsRecords files None input faults result = ReadsOn input faults result

-- 4. The job

-- a text with a line feed at its end
abbrev pub ends_line : List ℕ → Bool
ends_line text = length text == 0 || slice_index text (length text - 1) == 10

abbrev pub ended : List ℕ → List ℕ
ended text = if ends_line text then text else text ++ 10 ∷ []

-- the three one after another
abbrev pub joined : List ℕ → List ℕ → List ℕ → List ℕ
joined description plan records = (ended description ++ ended plan) ++ records

-- that is the job; or memory runs out for it
abbrev pub Joins : List ℕ → List ℕ → List ℕ → Device → Result (List ℕ) ℕ → Type 0
Joins description plan records faults (Ok job) = (job ≡ joined description plan records) × IsUntouched faults
Joins description plan records faults (Err status) = Reports faults (halt_line Memory) × (status ≡ 3)

-- the files of a service by hand
pub record Hand : Type 0 where
  pub description : Text
  pub plan : Option Text
  pub records : Option Text

abbrev pub hand : Text → Option Text → Option Text → Hand
hand description plan records = record { description = description; plan = plan; records = records }

-- all three are read, and become one
pub record Reads (h : Hand) (files : Files) (input faults : Device) (result : Result (List ℕ) ℕ) : Type 0 where
  pub description : List ℕ
  pub plan : List ℕ
  pub records : List ℕ
  -- the second writer after the description, the plan and the records
  pub first : Port
  pub second : Port
  pub third : Port
  pub described : ReadsAll files (h.description ∷ []) (between faults.before first) (Ok description)
  pub planned : ReadsPlan files h.plan description (between first second) (Ok plan)
  pub recorded : ReadsRecords files h.records input (between second third) (Ok records)
  pub joins : Joins description plan records (between third faults.after) result

-- there is no description
pub record HasNoDescription (h : Hand) (files : Files) (input faults : Device) (status : ℕ) : Type 0 where
  pub stops : ReadsAll files (h.description ∷ []) faults (Err status)
  pub unread : IsUntouched input

-- or no plan for it
pub record HasNoPlan (h : Hand) (files : Files) (input faults : Device) (status : ℕ) : Type 0 where
  pub description : List ℕ
  pub first : Port
  pub described : ReadsAll files (h.description ∷ []) (between faults.before first) (Ok description)
  pub stops : ReadsPlan files h.plan description (between first faults.after) (Err status)
  pub unread : IsUntouched input

-- or the records can't be read
pub record HasNoRecords (h : Hand) (files : Files) (input faults : Device) (status : ℕ) : Type 0 where
  pub description : List ℕ
  pub plan : List ℕ
  pub first : Port
  pub second : Port
  pub described : ReadsAll files (h.description ∷ []) (between faults.before first) (Ok description)
  pub planned : ReadsPlan files h.plan description (between first second) (Ok plan)
  pub stops : ReadsRecords files h.records input (between second faults.after) (Err status)

abbrev pub ReadsJob : Hand → Files → Device → Device → Result (List ℕ) ℕ → Type 0
ReadsJob h files input faults (Ok job) = Reads h files input faults (Ok job)
ReadsJob h files input faults (Err status) =
    Reads h files input faults (Err status) ⊎ (HasNoDescription h files input faults status
    ⊎ (HasNoPlan h files input faults status ⊎ HasNoRecords h files input faults status))

-- 5. Its packets: the packets of `tsmux mux` for the job

-- all are written
pub record WritesPackets (h : Hand) (files : Files) (input packets faults : Device) (figures : Figures) (status : ℕ) : Type 0 where
  pub job : List ℕ
  pub so_far : Port
  pub reads : ReadsJob h files input (between faults.before so_far) (Ok job)
  pub muxed : MuxesBytes job packets (between so_far faults.after) (Ok figures)
  pub status_is : status ≡ 0

-- there is no job: nothing is written
pub record HasNone (h : Hand) (files : Files) (input packets faults : Device) (status : ℕ) : Type 0 where
  pub reads : ReadsJob h files input faults (Err status)
  pub unwritten : IsUntouched packets

-- there is one, and `tsmux mux` does not write all its packets: the words for that come after its line
pub record StopsWithin (h : Hand) (files : Files) (input packets faults : Device) (status : ℕ) : Type 0 where
  pub job : List ℕ
  pub so_far : Port
  pub later : Port
  pub reads : ReadsJob h files input (between faults.before so_far) (Ok job)
  pub muxed : MuxesBytes job packets (between so_far later) (Err status)
  pub why : SaysWhy job status (between later faults.after)

abbrev pub MuxesByHand : Hand → Files → Device → Device → Device → Remuxed → Type 0
MuxesByHand h files input packets faults (Whole figures status) = WritesPackets h files input packets faults figures status
MuxesByHand h files input packets faults (Ended status) = HasNone h files input packets faults status ⊎ StopsWithin h files input packets faults status
