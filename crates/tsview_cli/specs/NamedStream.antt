-- A transport stream in a file whose name is a word of the command line.
use Rattle.std.specs.Prelude.{◌≡◌, ◌⊎◌, ℕ, [], codes}
use Rattle.clap.specs.Words.{Text}
use Rattle.devices.specs.Devices.{Device, IsUntouched}
use Rattle.devices.specs.Files.{Files, IsOpened, IsUnopened}
use Rattle.devices.specs.Lines.{Reports, line_text}
use Rattle.devices.specs.Runs.{LacksMemory}

-- the file was opened, and takes the place of the input; the input is not read
pub record IsOfFile (files : Files) (name : Text) (Does : Device → Device → Device → ℕ → Type 0) (input output faults : Device) (status : ℕ) : Type 0 where
  pub opened : IsOpened files name
  pub file : Device
  pub begins : file.before.bytes ≡ files.contents name
  pub does : Does file output faults status
  pub unread : IsUntouched input

-- the file can't be opened: nothing is read and nothing written
pub record HasNoFile (files : Files) (name : Text) (input output faults : Device) (status : ℕ) : Type 0 where
  pub unopened : IsUnopened files name
  pub unread : IsUntouched input
  pub unwritten : IsUntouched output
  pub reports : Reports faults (line_text (codes "open") [])
  pub status_is : status ≡ 3

-- or there was no memory for the words
abbrev pub OfFile : Files → Text → (Device → Device → Device → ℕ → Type 0) → Device → Device → Device → ℕ → Type 0
OfFile files name Does input output faults status =
    IsOfFile files name Does input output faults status ⊎ (HasNoFile files name input output faults status ⊎ LacksMemory input output faults status)
