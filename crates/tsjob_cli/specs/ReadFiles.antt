-- The bytes of files that are named, one after another.
use Rattle.std.specs.Prelude.{◌≡◌, ◌⊎◌, ℕ, List, [], ◌∷◌, ◌++◌, Result, Ok, Err}
use Rattle.devices.specs.Devices.{Device, IsUntouched}
use Rattle.devices.specs.Files.{Files, IsOpened, IsUnopened, IsUnread}
use Rattle.devices.specs.Lines.{Reports}
use Rattle.devices.specs.Outcomes.{halt_line}
use Rattle.devices.specs.WholeInput.{IsWhole}
use Rattle.devices.specs.declared.halt.Halt.{Halt}
use Rattle.devices.specs.declared.halt.Halt.TheVariants.{Read, Write, Memory}
use Rattle.devices.specs.Saving.{ReportsText}
use Rattle.tsjob_cli.specs.Reports.{unopened_text, unread_text}

-- the file of a name was opened, and these are its bytes, if its bytes are known
abbrev pub HasBytes : Files → List ℕ → List ℕ → Type 0
HasBytes files name bytes = IsOpened files name × IsWhole (files.contents name) bytes

-- the bytes of the files of these names, one after another
unfoldable pub HaveBytes : Files → List (List ℕ) → List ℕ → Type 0
HaveBytes files [] bytes = bytes ≡ []
HaveBytes files (name ∷ names) bytes =
    (first : List ℕ) × ((rest : List ℕ) × (HasBytes files name first × (HaveBytes files names rest × (bytes ≡ first ++ rest))))

-- why a file that was opened has no bytes
abbrev pub ReportsUnreadFile : List ℕ → Halt → Device → Type 0
ReportsUnreadFile name Read faults = ReportsText name unread_text faults
ReportsUnreadFile name Write faults = ReportsText name unread_text faults
ReportsUnreadFile name Memory faults = Reports faults (halt_line Memory)

-- it can't be opened or not be read to its end; or memory runs out
abbrev pub StopsAt : Files → List ℕ → Device → Type 0
StopsAt files name faults =
    (IsUnopened files name × ReportsText name unopened_text faults)
    ⊎ ((IsUnread files name × ReportsText name unread_text faults) ⊎ Reports faults (halt_line Memory))

abbrev pub ReadsFile : Files → List ℕ → Device → Result (List ℕ) ℕ → Type 0
ReadsFile files name faults (Ok bytes) = HasBytes files name bytes × IsUntouched faults
ReadsFile files name faults (Err status) = StopsAt files name faults × (status ≡ 3)

-- the files before one that can't be read were read to their ends
pub record StopsAtOne (files : Files) (names : List (List ℕ)) (faults : Device) (status : ℕ) : Type 0 where
  pub before : List (List ℕ)
  pub name : List ℕ
  pub after : List (List ℕ)
  pub is : names ≡ before ++ name ∷ after
  pub bytes : List ℕ
  pub read : HaveBytes files before bytes
  pub stops : StopsAt files name faults
  pub status_is : status ≡ 3

abbrev pub ReadsAll : Files → List (List ℕ) → Device → Result (List ℕ) ℕ → Type 0
ReadsAll files names faults (Ok bytes) = HaveBytes files names bytes × IsUntouched faults
ReadsAll files names faults (Err status) = StopsAtOne files names faults status
