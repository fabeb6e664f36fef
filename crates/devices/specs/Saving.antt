-- A file that is written whole or not at all, and reports, in words, of a fault of a named file.
use Rattle.std.specs.Prelude.{◌≡◌, ◌⊎◌, ℕ, Bool, true, false, List, [], ◌∷◌, Option, Some, None, codes}
use Rattle.devices.specs.Devices.{Device, HasFailed, IsClean, IsUntouched, Takes}
use Rattle.devices.specs.Files.{IsAsKnown}
use Rattle.devices.specs.Lines.{ReportsAll, Stopped}
use Rattle.devices.specs.declared.files.FileFault.{FileFault}
use Rattle.devices.specs.declared.files.FileFault.TheVariants.{Missing, Denied, Folder, Busy, Other}

-- 1. Reports

-- its name, then a text
abbrev pub ReportsText : List ℕ → List ℕ → Device → Type 0
ReportsText name text faults = ReportsAll faults.before faults.after (name ∷ text ∷ [])

abbrev pub uncreated_text : FileFault → List ℕ
uncreated_text Missing = codes ": can't be created: no such folder\n"
uncreated_text Denied = codes ": can't be created: no permission\n"
uncreated_text Folder = codes ": can't be created: is a folder\n"
uncreated_text Busy = codes ": another run writes it\n"
uncreated_text Other = codes ": can't be created\n"

abbrev pub unnamed_text : List ℕ
unnamed_text = codes ": can't be renamed\n"

abbrev pub unwritten_text : List ℕ
unwritten_text = codes ": can't be written\n"

-- 2. A new file

-- the known bytes of a file before its first byte
abbrev pub AreNone : Option (List ℕ) → Type 0
AreNone known = (bytes : List ℕ) → known ≡ Some bytes → bytes ≡ []

-- it can't be created
pub record CreatesNone (creates : Option (Option FileFault)) (name : List ℕ) (faults : Device) (status : ℕ) : Type 0 where
  pub fault : FileFault
  pub uncreated : IsAsKnown creates (Some fault)
  pub reports_text : ReportsText name (uncreated_text fault) faults
  pub status_is : status ≡ 3

-- the same before anything is read
abbrev pub HasNoFile : Option (Option FileFault) → List ℕ → Device → Device → ℕ → Type 0
HasNoFile creates name input faults status = CreatesNone creates name faults status × IsUntouched input

-- 3. Its bytes and its name

-- a new file has its name now; or it can't have it, which is reported
abbrev pub Keeps : Option Bool → List ℕ → ℕ → Device → ℕ → Type 0
Keeps keeps name ended faults status =
    (IsAsKnown keeps true × ((status ≡ ended) × IsUntouched faults)) ⊎ (IsAsKnown keeps false × ((status ≡ 3) × ReportsText name unnamed_text faults))

-- all bytes are written to it
pub record IsSaved (keeps : Option Bool) (known : Option (List ℕ)) (name bytes : List ℕ) (ended : ℕ) (faults : Device) (status : ℕ) : Type 0 where
  pub file : Device
  pub begins : file.before.bytes ≡ known
  pub written : Takes file bytes
  pub clean : IsClean file
  pub kept : Keeps keeps name ended faults status

-- the writer failed within the bytes of a new file; that the file is then removed is only tested
pub record IsRemoved (known : Option (List ℕ)) (name bytes : List ℕ) (faults : Device) (status : ℕ) : Type 0 where
  pub file : Device
  pub begins : file.before.bytes ≡ known
  pub stopped : Stopped bytes file
  pub failed : HasFailed file
  pub reports_text : ReportsText name unwritten_text faults
  pub status_is : status ≡ 3

abbrev pub SavesFile : Option Bool → Option (List ℕ) → List ℕ → List ℕ → ℕ → Device → ℕ → Type 0
SavesFile keeps known name bytes ended faults status =
    IsSaved keeps known name bytes ended faults status ⊎ IsRemoved known name bytes faults status

-- 4. All of it

-- the bytes are written to a new file
pub record SavesNew (creates : Option (Option FileFault)) (keeps : Option Bool) (name bytes : List ℕ) (ended : ℕ) (faults : Device) (status : ℕ) : Type 0 where
  pub created : IsAsKnown creates None
  pub known : Option (List ℕ)
  pub empty : AreNone known
  pub saves : SavesFile keeps known name bytes ended faults status

abbrev pub SavesNamed : Option (Option FileFault) → Option Bool → List ℕ → List ℕ → ℕ → Device → ℕ → Type 0
SavesNamed creates keeps name bytes ended faults status =
    SavesNew creates keeps name bytes ended faults status ⊎ CreatesNone creates name faults status
